use Rattle.std.proofs.Common.{sym, ◌∙◌, ap, is_some}
use Rattle.image_write.proofs.Shortness.{long_image, many_rows}
use Rattle.image_write.proofs.layout.layout_of.Goals as goal

pub returns-then-not-are_short-clause-exact : goal.returns-then-not-are_short-clause-exact
returns-then-not-are_short-clause-exact c = long_image c.args.draft.now (sym c.are_short.ensures ∙ c.if-not-are_short.true)

pub returns-in_err-counts-clause-exact : goal.returns-in_err-counts-clause-exact
returns-in_err-counts-clause-exact c =
    ap is_some c.from_residual.ensures ∙ many_rows c.args.draft.now c.in_err-counts.ensures.none

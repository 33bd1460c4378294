use Rattle.std.proofs.Common.{◌≡◌, true, [], ◌∷◌, sym, ap₂, ◌∙◌}
use Rattle.clr_base.specs.Checks.{check, first_fault}
use Rattle.clr_base.specs.declared.image_fault.FaultKind.TheVariants.{TooMany}
use Rattle.image_files.specs.Counts.{are_few, with_file}
use Rattle.image_files.proofs.FewEnough.{count_passes, count_fails}
use Rattle.image_rows.proofs.Passing.{one_passes}
use Rattle.image_files.proofs.counts.count_file.Goals as goal

pub returns-in-Err-clause-exact : goal.returns-in-Err-clause-exact
returns-in-Err-clause-exact c =
    let here = ap₂ (λ b place. first_fault (check b TooMany place ∷ [])) (sym c.are_few.ensures) (sym c.token.ensures) in
    sym (count_fails (with_file c.args.totals c.args.tables.now) c.with_file-totals.result _ (here ∙ sym c.in-Err.ensures) c.with_file-totals.ensures.few)

pub returns-in-Ok-clause-exact : goal.returns-in-Ok-clause-exact
returns-in-Ok-clause-exact c =
    let few : are_few c.with_file-totals.result ≡ true = sym c.are_few.ensures ∙ one_passes c.are_few.result TooMany c.token.result (sym c.in-Ok.ensures) in
    sym (count_passes (with_file c.args.totals c.args.tables.now) c.with_file-totals.result few c.with_file-totals.ensures.few (c.with_file-totals.ensures.exact few))

use Rattle.std.proofs.Common.{◌∙◌, sym, subst}
use Rattle.field_layout.specs.Notes.{FoundSound}
use Rattle.field_layout.proofs.Chains.{laid_end}
use Rattle.field_layout.proofs.classes.laid_from.Goals as goal

pub returns-in-Some-clause-short : goal.returns-in-Some-clause-short
returns-in-Some-clause-short c =
    let sound = subst (λ f. FoundSound c.args.world.now c.args.def.now f) c.in-Settled.is c.requires.found in
    laid_end c.args.world.now c.args.value c.args.def.now c.args.begin c.in-Settled.fields c.in-Some.layout sound.0 (sym c.in_ok-layout-in-Settled.ensures ∙ c.in-Some.is)

use Rattle.std.proofs.Common.{◌≡◌, Some, ap, ◌∙◌, sym}
use Rattle.type_pool.specs.Trees.{at}
use Rattle.def_faults.specs.declared.faults.DefFaults.{DefFaults}
use Rattle.def_faults.specs.BaseCycle.{is_base_cycle}
use Rattle.key_faults.specs.Definitions.{def_in}
use Rattle.key_faults.proofs.Telling.{told_faults, exists_in, of_some}
use Rattle.key_faults.proofs.definitions.has_base_cycle.Goals as goal

pub returns-in-Some : goal.returns-in-Some
returns-in-Some c =
    let w = c.args.world.now in let t = at c.args.pool.now c.args.id in let d = c.in-Some.def in
    let is : def_in w t ≡ Some d = sym c.def_in.ensures ∙ c.in-Some.is in
    ap (λ (f : DefFaults). f.base_cycle) c.faults_of.ensures ∙ ((told_faults w c.args.told.now d c.requires.told (exists_in w t d is)).base_cycle ∙ of_some w (is_base_cycle w) t d is)

use Rattle.std.proofs.Common.{arith}
use Rattle.type_tree.specs.declared.definition.Def.{Def}
use Rattle.type_tree.proofs.Bounds.{methods_few}
use Rattle.slot_chains.proofs.DefLemmas.{parent_exists, methods_within}
use Rattle.slot_chains.proofs.walk.def_of.Goals as goal

pub returns-clause-few : goal.returns-clause-few
returns-clause-few c =
    let d : Def = c.def.result.now in
    let few = methods_few c.args.world.now c.whole.ensures in
    let within = methods_within c.args.world.now d c.def.ensures.fits in
    omega (arith, few, within)

pub returns-clause-parent : goal.returns-clause-parent
returns-clause-parent c = λ p e. parent_exists c.args.world.now c.def.result.now p c.def.ensures.fits e

use Rattle.std.proofs.Common.{sym, subst}
use Rattle.method_slots.specs.Chains.{longest_chain}
use Rattle.interface_maps.specs.Choices.{answers}
use Rattle.interface_maps.specs.Found.{AreFound}
use Rattle.interface_maps.proofs.verdicts.slots_with.Goals as goal

pub lacks_answer-lacks-requires-clause-found : goal.lacks_answer-lacks-requires-clause-found
lacks_answer-lacks-requires-clause-found c =
    subst (λ fs. AreFound c.args.pool.now fs (answers longest_chain c.args.world.now c.args.id.0)) (sym c.as_slice.ensures) c.requires.map.found

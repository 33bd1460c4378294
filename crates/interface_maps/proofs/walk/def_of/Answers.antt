use Rattle.slot_chains.proofs.DefLemmas.{parent_exists}
use Rattle.interface_maps.proofs.walk.def_of.Goals as goal

pub returns-clause-parent : goal.returns-clause-parent
returns-clause-parent c = λ p e. parent_exists c.args.world.now c.def.result.now p c.def.ensures.fits e

use Rattle.std.proofs.Common.{sym, refl}
use Rattle.obj_heap.proofs.PlaceKinds.{any_two}
use Rattle.obj_heap.proofs.kinds.any_ref.Goals as goal

pub returns : goal.returns
returns c = sym (any_two c.args.refs.now c.args.offset c.args.width _ c.requires.some c.requires.few refl)

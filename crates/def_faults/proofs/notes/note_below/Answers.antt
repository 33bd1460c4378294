use Rattle.def_faults.proofs.Noting.{note_below}
use Rattle.def_faults.proofs.notes.note_below.Goals as goal

pub returns : goal.returns
returns c = rw (c.min.ensures, c.lacks_with.ensures, c.is_delegate_with.ensures) (note_below c.args.world.now c.args.id c.args.above c.requires)

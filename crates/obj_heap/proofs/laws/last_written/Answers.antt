use Rattle.obj_heap.proofs.Steps.{read_last}
use Rattle.obj_heap.proofs.laws.last_written.Goals as goal

pub returns : goal.returns
returns g c = read_last

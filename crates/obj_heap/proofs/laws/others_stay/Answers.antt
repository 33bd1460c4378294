use Rattle.obj_heap.proofs.Written.{read_other}
use Rattle.obj_heap.proofs.laws.others_stay.Goals as goal

pub returns : goal.returns
returns g c = λ s p q m n value inside apart. read_other s p m value inside q n apart

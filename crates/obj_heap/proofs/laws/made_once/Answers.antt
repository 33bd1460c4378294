use Rattle.obj_heap.proofs.Written.{find-written, handle_of-written, length_of-written, is_inside-written, kind_at-written}
use Rattle.obj_heap.proofs.laws.made_once.Goals as goal

pub returns : goal.returns
returns g c = record {
  find = λ s p width value n inside. find-written s p width value inside n;
  handle_of = λ s p width value r inside. handle_of-written s p width value inside r;
  length_of = λ s p width value r inside. length_of-written s p width value inside r;
  is_inside = λ s p width value q n inside. is_inside-written s p width value inside q n;
  kind_at = λ s p width value q n inside. kind_at-written s p width value inside q n;
}

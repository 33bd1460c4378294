use Rattle.obj_heap.proofs.Natural as natural
use Rattle.obj_heap.proofs.laws.names_unseen.Goals as goal

pub returns : goal.returns
returns g c = record {
  new_object = natural.new_object-natural;
  new_array = natural.new_array-natural;
  new_string = natural.new_string-natural;
  find = natural.find-natural;
  handle_of = natural.handle_of-natural;
  length_of = natural.length_of-natural;
  is_inside = natural.is_inside-natural;
  kind_at = natural.kind_at-natural;
  read_at = natural.read_at-natural;
  write_at = natural.write_at-natural;
}

use Rattle.std.proofs.Common.{◌≡◌, ◌+◌, ◌*◌, ◌≤◌, ◌++◌, length, vec_len, vec_capacity}
use Rattle.std.specs.List.{repeat}
use Rattle.obj_heap.proofs.room.push_elements.Given as goal

abbrev pub invariant-loop-i : goal.invariant-loop-i
invariant-loop-i l = record {
  items : l.refs.items ≡ l.initial.refs.items ++ repeat l._i l.element;
  len : vec_len l.refs ≡ vec_len l.initial.refs + length l.element * l._i;
  capacity : vec_capacity l.initial.refs ≤ vec_capacity l.refs;
}

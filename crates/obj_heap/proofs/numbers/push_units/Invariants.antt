use Rattle.std.proofs.Common.{◌≡◌, ◌+◌, ◌*◌, ◌++◌, take, vec_len, vec_capacity}
use Rattle.std.specs.List.{flat_map}
use Rattle.byteorder.specs.Endian.{little_bytes}
use Rattle.obj_heap.proofs.numbers.push_units.Given as goal

abbrev pub invariant-loop-unit : goal.invariant-loop-unit
invariant-loop-unit l = record {
  items : l.bytes.items ≡ l.initial.bytes.items ++ flat_map (little_bytes 2) (take l.unit-index l.units);
  len : vec_len l.bytes ≡ vec_len l.initial.bytes + 2 * l.unit-index;
  capacity : vec_capacity l.bytes ≡ vec_capacity l.initial.bytes;
}

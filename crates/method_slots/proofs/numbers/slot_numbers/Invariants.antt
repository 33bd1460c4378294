use Rattle.std.proofs.Common.{◌≤◌, ◌+◌, length, drop}
use Rattle.method_slots.specs.Virtuals.{numbers, opened}
use Rattle.method_slots.proofs.Steps.{Left}
use Rattle.method_slots.proofs.numbers.slot_numbers.Given as goal

abbrev pub invariant-loop-method : goal.invariant-loop-method
invariant-loop-method l = record {
  few : length l.keys ≤ length l.fn.keys + l.method-index;
  left : Left l.fn.keys l.done l.keys (drop l.method-index l.methods) (numbers l.fn.keys l.methods) (opened l.fn.keys l.methods);
}

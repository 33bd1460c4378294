use Rattle.std.proofs.Common.{◌≡◌, ℕ, ◌<◌, ◌+◌, ◌*◌, ◌≤◌, map}
use Rattle.std.specs.List.{range_with_len}
use Rattle.type_names.specs.Resolution.{first_def}
use Rattle.type_names.proofs.def_numbers.DefNumbers.new.Given as goal

abbrev pub invariant-loop-tables : goal.invariant-loop-tables
invariant-loop-tables l = record {
  next : l.next ≡ first_def l.files l.tables-index;
  few : l.next ≤ 36 + 16777215 * l.tables-index;
  small : (k : ℕ) → k < l.tables-index + 1 → first_def l.files k < 4294967296;
  firsts : l.firsts ≡ map (first_def l.files) (range_with_len 0 (l.tables-index + 1));
}

use Rattle.std.proofs.Common.{◌≡◌, ◌+◌, ◌*◌, ◌<◌, ◌≤◌, ℕ, length, get_or}
use Rattle.cli_tables.specs.declared.layout.TablePlace.{TablePlace}
use Rattle.cli_tables.specs.Layout.{start}
use Rattle.cli_tables.specs.Places.{IsTablePlace}
use Rattle.cli_tables.proofs.layout.place_tables.Given as goal

abbrev pub invariant-loop-t : goal.invariant-loop-t
invariant-loop-t l = record {
  begins : l.start ≡ start l.stream l.t;
  small : l.start ≤ 280 + l.t * 603979740;
  room : length l.places ≡ 45;
  placed : (k : ℕ) → k < l.t → (d : TablePlace) → IsTablePlace l.stream k (get_or l.places k d);
}

use Rattle.std.proofs.Common.{◌≡◌, ◌≤◌, ◌<◌, ◌*◌, ℕ, take, length, get_or}
use Rattle.cli_tables.specs.declared.layout.CellPlace.{CellPlace}
use Rattle.cli_tables.specs.Layout.{widths}
use Rattle.cli_tables.specs.Places.{column_place}
use Rattle.cli_tables.proofs.layout.place_columns.Given as goal

abbrev pub invariant-loop-k : goal.invariant-loop-k
invariant-loop-k l = record {
  so_far : l.offset ≡ widths l.counts l.sizes (take l.k l.columns);
  small : l.offset ≤ 4 * l.k;
  room : length l.cells ≡ 9;
  placed : (c : ℕ) → c < l.k → (d : CellPlace) → get_or l.cells c d ≡ column_place l.counts l.sizes l.columns c;
}

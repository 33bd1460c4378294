-- What is kept of the layout of `#~`: for each table its place, and that of its columns.
use Rattle.std.specs.Prelude.{◌≡◌, ℕ, ◌<◌, List, map, take, length, get_or, true}
use Rattle.cli_tables.specs.declared.schema.Column.{Column}
use Rattle.cli_tables.specs.declared.layout.CellPlace.{CellPlace}
use Rattle.cli_tables.specs.declared.layout.TablePlace.{TablePlace}
use Rattle.cli_tables.specs.Schema.{columns}
use Rattle.cli_tables.specs.Layout.{width, widths, start, row_count, row_counts, heap_sizes, row_width, are_tables}

-- the place of a column behind the columns before it
abbrev pub column_place : List ℕ → ℕ → List Column → ℕ → CellPlace
column_place counts sizes cs c = record { offset = widths counts sizes (take c cs); width = get_or (map (width counts sizes) cs) c 0 }

-- the places of some columns
abbrev pub AreColumnPlaces : List ℕ → ℕ → List Column → List CellPlace → Type 0
AreColumnPlaces counts sizes cs cells = (c : ℕ) (d : CellPlace) → c < length cs → get_or cells c d ≡ column_place counts sizes cs c

-- the place of a table
pub record IsTablePlace (stream : List ℕ) (t : ℕ) (p : TablePlace) : Type 0 where
  pub begins : p.start ≡ start stream t
  pub rows : p.rows ≡ row_count stream t
  pub wide : p.row_width ≡ row_width (row_counts stream) (heap_sizes stream) t
  pub cells : AreColumnPlaces (row_counts stream) (heap_sizes stream) (columns t) p.cells

-- the places of the tables below n
abbrev pub ArePlacesBelow : List ℕ → List TablePlace → ℕ → Type 0
ArePlacesBelow stream places n = (t : ℕ) (d : TablePlace) → t < n → IsTablePlace stream t (get_or places t d)

-- the stream is whole, and these are the places of its tables
pub record ArePlaces (stream : List ℕ) (places : List TablePlace) : Type 0 where
  pub whole : are_tables stream ≡ true
  pub each : ArePlacesBelow stream places 45

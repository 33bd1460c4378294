-- Columns that pass: the checks of rows, seen column by column.
use Rattle.std.specs.Prelude.{◌≡◌, ℕ, ◌≤◌}
use Rattle.clr_base.specs.Checks.{first_fault, none_of}
use Rattle.cli_tables.specs.declared.schema.Column.{Column}
use Rattle.cli_tables.specs.Layout.{cell, row_count}
use Rattle.cli_tables.specs.Metadata.{Metadata}
use Rattle.image_rows.specs.Rows.{value_checks, cell_checks}

-- the first n values in a column pass, where the column holds what a kind says
pub record FirstPass (m : Metadata) (table column : ℕ) (kind : Column) (n : ℕ) : Type 0 where
  pub each : (row : ℕ) → 1 ≤ row → row ≤ n → first_fault (value_checks m table row column kind (cell m.tables table row column)) ≡ none_of

-- all of them
abbrev pub ValuesPass : Metadata → ℕ → ℕ → Column → Type 0
ValuesPass m table column kind = FirstPass m table column kind (row_count m.tables table)

-- each cell in a column passes
pub record CellsPass (m : Metadata) (table column : ℕ) : Type 0 where
  pub each : (row : ℕ) → 1 ≤ row → row ≤ row_count m.tables table → first_fault (cell_checks m table row column) ≡ none_of

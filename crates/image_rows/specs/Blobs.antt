-- Blobs of signatures, and what is read of them (ECMA-335 II.23.2, II.24.2.4).
use Rattle.std.specs.Prelude.{ℕ, List, [], ◌∷◌, ◌==◌, Bool, false, Result, Ok, Err}
use Rattle.cli_sigs.specs.declared.signature.RowCounts.{RowCounts}
use Rattle.cli_tables.specs.Metadata.{Metadata}
use Rattle.image_rows.specs.Cells.{rows}

-- how many rows the tables have that a signature may name
abbrev pub row_counts : Metadata → RowCounts
row_counts m = record { type_def = rows m 0x02; type_ref = rows m 0x01; type_spec = rows m 0x1B }

-- what a blob holds, and something else where it is no signature, which is not so in a file that passes its checks
abbrev pub value_or : {X : Type 0} → X → Result X ℕ → X
value_or d (Ok x) = x
value_or d (Err place) = d

-- whether a blob begins with a code; a field's begins with 06
abbrev pub begins_with : ℕ → List ℕ → Bool
begins_with code [] = false
begins_with code (b ∷ bs) = b == code

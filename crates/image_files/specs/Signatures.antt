-- The signatures that a file gives a world: how many its rows have, and the local variables that its blobs list.
use Rattle.std.specs.Prelude.{ℕ, ◌+◌, ◌*◌, List, [], length, sum_by, take, Option, None, Some, unwrap_or, if◌then◌else◌}
use Rattle.cli_sigs.specs.declared.signature.SigTy.{SigTy}
use Rattle.cli_sigs.specs.Signatures.{placed, locals_at}
use Rattle.cli_tables.specs.Metadata.{Metadata}
use Rattle.image_rows.specs.Cells.{at, blob_by, rows, rows_of}
use Rattle.image_rows.specs.Blobs.{begins_with, row_counts, value_or}

-- the types of the local variables that the blob at an index lists (II.23.2.6), none where it doesn't begin with 07
unfoldable pub locals_by : Metadata → ℕ → Option (List SigTy)
locals_by m index =
    if begins_with 0x07 (blob_by m index) then Some (value_or [] (placed (blob_by m index) (locals_at (row_counts m) (blob_by m index)))) else None

-- those of a StandAloneSig row
abbrev pub locals_in : Metadata → ℕ → Option (List SigTy)
locals_in m row = locals_by m (at m 0x11 row 0)

abbrev pub listed : Option (List SigTy) → List SigTy
listed ts = unwrap_or ts []

-- how many signatures of rows there are before the local variables
unfoldable pub row_sigs : Metadata → ℕ
row_sigs m = 2 * (rows m 0x02 + rows m 0x01 + rows m 0x1B) + (rows m 0x04 + rows m 0x06 + rows m 0x0A + rows m 0x2B)

-- how many local variables the first n rows of StandAloneSig list
unfoldable pub locals_before : Metadata → ℕ → ℕ
locals_before m n = sum_by (λ row. length (listed (locals_in m row))) (take n (rows_of m 0x11))

unfoldable pub sigs_in : Metadata → ℕ
sigs_in m = row_sigs m + locals_before m (rows m 0x11)

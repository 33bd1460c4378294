-- A whole file: its metadata, or the first of all its checks that fails.
use Rattle.std.specs.Prelude.{ℕ, ◌+◌, List, ◌++◌, slice_range, Result}
use Rattle.clr_base.specs.declared.image_fault.ImageFault.{ImageFault}
use Rattle.clr_base.specs.Checks.{Check, outcome}
use Rattle.pe_image.specs.Metadata.{metadata_checks, places}
use Rattle.cli_tables.specs.Metadata.{Metadata, read_checks, contents}
use Rattle.image_rows.specs.Rows.{rows_checks}
use Rattle.image_rows.specs.SignatureChecks.{signature_checks}

-- the bytes of the metadata, as the headers place it
unfoldable pub metadata_bytes : List ℕ → List ℕ
metadata_bytes bytes = slice_range bytes (places bytes).meta_start ((places bytes).meta_start + (places bytes).meta_len)

-- what the metadata's streams hold
abbrev pub metadata_in : List ℕ → Metadata
metadata_in bytes = contents (metadata_bytes bytes)

-- the checks of where tables stand: headers, metadata root, streams, tables
abbrev pub place_checks : List ℕ → List Check
place_checks bytes = metadata_checks bytes ++ read_checks (metadata_bytes bytes)

-- the metadata of a file whose tables stand in it, or the first fault of these
abbrev pub tables_of : List ℕ → Result Metadata ImageFault
tables_of bytes = outcome (place_checks bytes) (metadata_in bytes)

-- the checks of what tables hold: rows, signatures
abbrev pub content_checks : Metadata → List Check
content_checks m = rows_checks m ++ signature_checks m

-- the checks of a file, in order
abbrev pub image_checks : List ℕ → List Check
image_checks bytes = place_checks bytes ++ content_checks (metadata_in bytes)

-- the metadata of a file, or its first fault
abbrev pub image_of : List ℕ → Result Metadata ImageFault
image_of bytes = outcome (image_checks bytes) (metadata_in bytes)

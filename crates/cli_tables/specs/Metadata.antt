-- Metadata as it is read: its streams, and the ordered checks that it passes.
use Rattle.std.specs.Prelude.{ℕ, ◌+◌, List, [], ◌∷◌, ◌++◌, Option, None, Some, is_some, slice_range, Result}
use Rattle.std.specs.Option.{option_map_or}
use Rattle.clr_base.specs.declared.image_fault.ImageFault.{ImageFault}
use Rattle.clr_base.specs.declared.image_fault.FaultKind.TheVariants.{BadStreams, BadTables}
use Rattle.clr_base.specs.Checks.{Check, check, outcome}
use Rattle.cli_tables.specs.declared.streams.Range.{Range}
use Rattle.cli_tables.specs.declared.streams.Streams.{Streams}
use Rattle.cli_tables.specs.Layout.{are_tables}
use Rattle.cli_tables.specs.Root.{root_checks, root_of}
use Rattle.cli_tables.specs.Streams.{stream_checks, found}

-- the contents of the streams. One that is absent is empty.
pub record Metadata : Type 0 where
  pub tables : List ℕ
  pub strings : List ℕ
  pub users : List ℕ
  pub blobs : List ℕ

-- the bytes of a stream
abbrev pub part : List ℕ → Option Range → List ℕ
part meta None = []
part meta (Some range) = slice_range meta range.start (range.start + range.len)

-- the streams of the metadata
unfoldable pub streams_of : List ℕ → Streams
streams_of meta = found meta (root_of meta).headers_at (root_of meta).stream_count

abbrev pub start_of : Option Range → ℕ
start_of range = option_map_or (λ r. r.start) range 0

-- there is a stream of tables, and it is whole
unfoldable pub tables_checks : List ℕ → List Check
tables_checks meta =
    check (is_some (streams_of meta).tables) BadStreams 0
    ∷ check (are_tables (part meta (streams_of meta).tables)) BadTables (start_of (streams_of meta).tables)
    ∷ []

-- the root and the stream headers
abbrev pub header_checks : List ℕ → List Check
header_checks meta = root_checks meta ++ stream_checks meta (root_of meta).headers_at (root_of meta).stream_count

-- the checks of metadata up to its rows, in order
abbrev pub read_checks : List ℕ → List Check
read_checks meta = header_checks meta ++ tables_checks meta

unfoldable pub contents : List ℕ → Metadata
contents meta = record {
  tables = part meta (streams_of meta).tables;
  strings = part meta (streams_of meta).strings;
  users = part meta (streams_of meta).users;
  blobs = part meta (streams_of meta).blobs;
}

-- the contents of the streams, or the first fault
abbrev pub read_of : List ℕ → Result Metadata ImageFault
read_of meta = outcome (read_checks meta) (contents meta)

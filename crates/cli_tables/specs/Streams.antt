-- The headers of the metadata's streams (ECMA-335 II.24.2.2). Each begins where the one before ends.
use Rattle.std.specs.Prelude.{ℕ, zero, suc, ◌+◌, ◌*◌, ◌/◌, List, [], ◌∷◌, take, drop, length, ◌≤◌, Bool, true, false, not, ◌&&◌, ◌==◌, Option, None, Some, is_some, codes, if◌then◌else◌}
use Rattle.std.specs.Option.{unwrap_or}
use Rattle.std.specs.List.{position}
use Rattle.std.specs.Str.{bytes_eq}
use Rattle.clr_base.specs.declared.image_fault.FaultKind.TheVariants.{BadStreams}
use Rattle.clr_base.specs.Checks.{Check, check, each}
use Rattle.clr_base.specs.LittleEndian.{u32_at, has_range}
use Rattle.cli_tables.specs.declared.streams.Range.{Range}
use Rattle.cli_tables.specs.declared.streams.StreamKind.{StreamKind}
use Rattle.cli_tables.specs.declared.streams.StreamKind.TheVariants.{Tables, Strings, UserStrings, Guid, Blob, Uncompressed, Other}
use Rattle.cli_tables.specs.declared.streams.Streams.{Streams}

-- The length of the name of the header at a place. It stands after two numbers, has at most 31 bytes and ends with a
-- zero.
unfoldable pub name_len : List ℕ → ℕ → Option ℕ
name_len meta at = position (λ byte. byte == 0) (take 32 (drop (at + 8) meta))

unfoldable pub name_at : List ℕ → ℕ → List ℕ
name_at meta at = take (unwrap_or (name_len meta at) 0) (drop (at + 8) meta)

-- a header's length: the name with its zero is padded to 4
unfoldable pub header_len : List ℕ → ℕ → ℕ
header_len meta at = 8 + 4 * (unwrap_or (name_len meta at) 0 / 4 + 1)

unfoldable pub range_at : List ℕ → ℕ → Range
range_at meta at = record { start = u32_at meta at; len = u32_at meta (at + 4) }

-- what a name means
unfoldable pub kind_of : List ℕ → StreamKind
kind_of name =
    if bytes_eq name (codes "#~") then Tables
    else if bytes_eq name (codes "#Strings") then Strings
    else if bytes_eq name (codes "#US") then UserStrings
    else if bytes_eq name (codes "#GUID") then Guid
    else if bytes_eq name (codes "#Blob") then Blob
    else if bytes_eq name (codes "#-") then Uncompressed
    else Other

abbrev pub no_streams : Streams
no_streams = record { tables = None; strings = None; users = None; guids = None; blobs = None }

-- the streams that were found, with one more
abbrev pub with_stream : Streams → StreamKind → Range → Streams
with_stream found Tables range = record found { tables = Some range }
with_stream found Strings range = record found { strings = Some range }
with_stream found UserStrings range = record found { users = Some range }
with_stream found Guid range = record found { guids = Some range }
with_stream found Blob range = record found { blobs = Some range }
with_stream found Uncompressed range = found
with_stream found Other range = found

-- whether a stream of that kind may come: not the one of uncompressed tables, and none twice
abbrev pub may_come : Streams → StreamKind → Bool
may_come found Tables = not (is_some found.tables)
may_come found Strings = not (is_some found.strings)
may_come found UserStrings = not (is_some found.users)
may_come found Guid = not (is_some found.guids)
may_come found Blob = not (is_some found.blobs)
may_come found Uncompressed = false
may_come found Other = true

-- a whole header, of a stream that may come and lies in the metadata
unfoldable pub is_stream : List ℕ → Streams → ℕ → Bool
is_stream meta found at =
    is_some (name_len meta at) && has_range meta at (header_len meta at)
    && has_range meta (range_at meta at).start (range_at meta at).len && may_come found (kind_of (name_at meta at))

-- the check of the header at a place, where these streams were found before it
unfoldable pub one_header : List ℕ → Streams → ℕ → List Check
one_header meta found at = check (is_stream meta found at) BadStreams at ∷ []

-- the place of header k, and the streams found before it
unfoldable pub place : List ℕ → ℕ → ℕ → ℕ
place meta first zero = first
place meta first (suc k) = place meta first k + header_len meta (place meta first k)

unfoldable pub found : List ℕ → ℕ → ℕ → Streams
found meta first zero = no_streams
found meta first (suc k) =
    with_stream (found meta first k) (kind_of (name_at meta (place meta first k))) (range_at meta (place meta first k))

abbrev pub header_checks : List ℕ → ℕ → ℕ → List Check
header_checks meta first k = one_header meta (found meta first k) (place meta first k)

abbrev pub stream_checks : List ℕ → ℕ → ℕ → List Check
stream_checks meta first count = each count (header_checks meta first)

-- a range lies in the metadata
abbrev pub IsInside : List ℕ → Option Range → Type 0
IsInside meta None = Unit {0}
IsInside meta (Some range) = range.start + range.len ≤ length meta

-- the streams that were found lie in the metadata
pub record AreInside (meta : List ℕ) (found : Streams) : Type 0 where
  pub tables : IsInside meta found.tables
  pub strings : IsInside meta found.strings
  pub users : IsInside meta found.users
  pub guids : IsInside meta found.guids
  pub blobs : IsInside meta found.blobs

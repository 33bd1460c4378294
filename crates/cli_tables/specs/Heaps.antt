-- The heaps (ECMA-335 II.24.2.3, II.24.2.4): texts that end with a zero, and blobs behind their length.
use Rattle.std.specs.Prelude.{ℕ, ◌+◌, ◌-◌, ◌*◌, List, [], take, drop, ◌==◌, nat_lt, Option, None, Some, Result, Ok, Err, slice_index, slice_range, if◌then◌else◌}
use Rattle.std.specs.Option.{option_map, option_and_then}
use Rattle.std.specs.List.{position}
use Rattle.std.specs.Str.{is_utf8}
use Rattle.clr_base.specs.declared.image_fault.FaultKind.{FaultKind}
use Rattle.clr_base.specs.declared.image_fault.FaultKind.TheVariants.{BadIndex, BadText}
use Rattle.clr_base.specs.LittleEndian.{has_range}
use Rattle.cli_tables.specs.declared.heaps.BlobRange.{BlobRange}

-- the bytes at an index of `#Strings` before the next zero. At 0 they are none, also without a heap.
unfoldable pub text_at : List ℕ → ℕ → Option (List ℕ)
text_at heap index =
    if index == 0 then Some []
    else option_map (λ n. take n (drop index heap)) (position (λ byte. byte == 0) (drop index heap))

-- these bytes as a text, or what is wrong with them
abbrev pub text_of : Option (List ℕ) → Result (List ℕ) FaultKind
text_of None = Err BadIndex
text_of (Some bytes) = if is_utf8 bytes then Ok bytes else Err BadText

-- the text at an index of `#Strings`
abbrev pub string_at : List ℕ → ℕ → Result (List ℕ) FaultKind
string_at heap index = text_of (text_at heap index)

-- a range, where n bytes at an index lie in the heap
abbrev pub if_inside : List ℕ → ℕ → ℕ → ℕ → Option BlobRange
if_inside heap index n len = if has_range heap index n then Some (record { start = index + n; len = len }) else None

-- What the length of a blob at an index tells: 0xxxxxxx, or 10xxxxxx and one more byte, or 110xxxxx and three more, the
-- highest first. Another first byte is no length.
unfoldable pub blob_range : List ℕ → ℕ → Option BlobRange
blob_range heap index =
    if nat_lt (slice_index heap index) 0x80 then if_inside heap index 1 (slice_index heap index)
    else if nat_lt (slice_index heap index) 0xc0
    then if_inside heap index 2 (256 * (slice_index heap index - 0x80) + slice_index heap (index + 1))
    else if nat_lt (slice_index heap index) 0xe0
    then if_inside heap index 4
    (16777216 * (slice_index heap index - 0xc0) + 65536 * slice_index heap (index + 1) + 256 * slice_index heap (index + 2) + slice_index heap (index + 3))
    else None

-- the bytes of a range, where they lie in the heap
abbrev pub range_in : List ℕ → BlobRange → Option (List ℕ)
range_in heap range = if has_range heap range.start range.len then Some (slice_range heap range.start (range.start + range.len)) else None

-- the blob at an index of `#Blob` or `#US`. At 0 it is empty, also without a heap.
unfoldable pub blob_at : List ℕ → ℕ → Option (List ℕ)
blob_at heap index = if index == 0 then Some [] else option_and_then (range_in heap) (blob_range heap index)

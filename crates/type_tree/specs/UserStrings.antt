-- The texts of a file (ECMA-335 II.24.2.4): each stands behind its length, and a byte stands behind
-- its last character.
use Rattle.std.specs.Prelude.{ℕ, ◌+◌, ◌-◌, ◌*◌, ◌%◌, List, [], take, length, ◌==◌, nat_lt, Option, None, Some, slice_index, slice_range, if◌then◌else◌}
use Rattle.std.specs.Option.{option_and_then}
use Rattle.clr_base.specs.LittleEndian.{has_range}
use Rattle.type_tree.specs.declared.user_strings.Content.{Content}
use Rattle.type_tree.specs.World.{Facts}
use Rattle.type_tree.specs.Tokens.{file_at}

-- a content of so many bytes behind a length of n bytes, where the length lies in the heap
abbrev pub if_inside : List ℕ → ℕ → ℕ → ℕ → Option Content
if_inside heap index n len = if has_range heap index n then Some (record { start = index + n; len = len }) else None

-- What the length at an index tells: 0xxxxxxx, or 10xxxxxx and one more byte, or 110xxxxx and three
-- more, the highest first. Another first byte is no length.
unfoldable pub content_at : List ℕ → ℕ → Option Content
content_at heap index =
    if nat_lt (slice_index heap index) 0x80 then if_inside heap index 1 (slice_index heap index)
    else if nat_lt (slice_index heap index) 0xc0
    then if_inside heap index 2 (256 * (slice_index heap index - 0x80) + slice_index heap (index + 1))
    else if nat_lt (slice_index heap index) 0xe0
    then if_inside heap index 4
    (16777216 * (slice_index heap index - 0xc0) + 65536 * slice_index heap (index + 1) + 256 * slice_index heap (index + 2) + slice_index heap (index + 3))
    else None

-- the bytes of a content, where they lie in the heap
abbrev pub bytes_in : List ℕ → Content → Option (List ℕ)
bytes_in heap c = if has_range heap c.start c.len then Some (slice_range heap c.start (c.start + c.len)) else None

-- the content at an index. At 0 it is empty, also without a heap.
unfoldable pub user_string : List ℕ → ℕ → Option (List ℕ)
user_string heap index = if index == 0 then Some [] else option_and_then (bytes_in heap) (content_at heap index)

-- A content without its last byte. An empty content is the empty text, and another one of even length
-- is none, since characters have two bytes.
abbrev pub text_of : List ℕ → Option (List ℕ)
text_of [] = Some []
text_of bytes = if length bytes % 2 == 0 then None else Some (take (length bytes - 1) bytes)

-- the text at an index of a heap
abbrev pub text_in : List ℕ → ℕ → Option (List ℕ)
text_in heap index = option_and_then text_of (user_string heap index)

abbrev pub text : Facts → ℕ → ℕ → Option (List ℕ)
text w file index = option_and_then (λ f. text_in f.users index) (file_at w.files file)

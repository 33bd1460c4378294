-- Method bodies (ECMA-335 II.25.4): the header, and the code behind it.
use Rattle.std.specs.Prelude.{ℕ, ◌+◌, ◌/◌, ◌%◌, List, ◌==◌, ◌&&◌, Option, None, Some, slice_index, slice_range, if◌then◌else◌}
use Rattle.std.specs.Option.{option_and_then, option_map}
use Rattle.clr_base.specs.LittleEndian.{u32_at, has_range}
use Rattle.pe_image.specs.declared.bodies.BodyRange.{BodyRange}
use Rattle.pe_image.specs.declared.sections.Section.{Section}
use Rattle.pe_image.specs.Sections.{place_by, sections}

-- The length of the body at a place, by its first byte: a tiny header has the code's size in its upper six bits, a
-- fat one has 12 bytes and the size at 4. Any other first byte begins no body, nor does a fat header that is cut.
unfoldable pub body_len : List ℕ → ℕ → Option ℕ
body_len bytes at =
    if slice_index bytes at % 4 == 2 then Some (1 + slice_index bytes at / 4)
    else if slice_index bytes at % 4 == 3 && has_range bytes at 12 then Some (12 + u32_at bytes (at + 4))
    else None

-- where n bytes at an RVA stand, by a table of sections
abbrev pub range_at : List ℕ → List Section → ℕ → ℕ → Option BodyRange
range_at bytes table rva n = option_map (λ start. record { start = start; len = n }) (place_by bytes table rva n)

-- where the body at an RVA stands, by a table of sections: its first byte tells its length
unfoldable pub range_by : List ℕ → List Section → ℕ → Option BodyRange
range_by bytes table rva =
    option_and_then (λ at. option_and_then (λ n. range_at bytes table rva n) (body_len bytes at)) (place_by bytes table rva 1)

-- where the body at an RVA stands, where it is in the file
abbrev pub body_range : List ℕ → ℕ → Option BodyRange
body_range bytes rva = range_by bytes (sections bytes) rva

-- the bytes of a range
abbrev pub bytes_in : List ℕ → BodyRange → List ℕ
bytes_in bytes range = slice_range bytes range.start (range.start + range.len)

-- the body at an RVA, where it is in the file
abbrev pub body_of : List ℕ → ℕ → Option (List ℕ)
body_of bytes rva = option_map (bytes_in bytes) (body_range bytes rva)

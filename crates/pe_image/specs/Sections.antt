-- The section table, and where the bytes at an RVA lie in the file (PE Format, "Section Table"; ECMA-335 II.25.3).
use Rattle.std.specs.Prelude.{ℕ, ◌+◌, ◌-◌, ◌*◌, max, List, map, Bool, ◌&&◌, nat_le, nat_lt, Option, Some, None, if◌then◌else◌}
use Rattle.std.specs.List.{find, range_with_len}
use Rattle.std.specs.Option.{option_and_then}
use Rattle.clr_base.specs.LittleEndian.{u32_at, has_range}
use Rattle.pe_image.specs.declared.sections.Section.{Section}
use Rattle.pe_image.specs.Headers.{sections_at, section_count}

-- the header of a section at a place
unfoldable pub section_at : List ℕ → ℕ → Section
section_at bytes at = record {
  virtual_size = u32_at bytes (at + 8);
  address = u32_at bytes (at + 12);
  raw_size = u32_at bytes (at + 16);
  raw_at = u32_at bytes (at + 20);
}

-- a section covers an RVA from its address on, as far as the larger of its two sizes goes
abbrev pub covers : ℕ → Section → Bool
covers rva s = nat_le s.address rva && nat_lt rva (s.address + max s.virtual_size s.raw_size)

-- the sections of a table of n headers at a place
abbrev pub table_at : List ℕ → ℕ → ℕ → List Section
table_at bytes at n = map (λ k. section_at bytes (at + 40 * k)) (range_with_len 0 n)

-- the place of n bytes at an RVA that a section covers, where they lie in its raw data and in the file
abbrev pub place_in : List ℕ → ℕ → ℕ → Section → Option ℕ
place_in bytes rva n s =
    if nat_le (rva - s.address + n) s.raw_size && has_range bytes (s.raw_at + (rva - s.address)) n
    then Some (s.raw_at + (rva - s.address))
    else None

-- the place of n bytes at an RVA, by a table: the first section that covers the RVA decides
unfoldable pub place_by : List ℕ → List Section → ℕ → ℕ → Option ℕ
place_by bytes table rva n = option_and_then (place_in bytes rva n) (find (covers rva) table)

abbrev pub sections : List ℕ → List Section
sections bytes = table_at bytes (sections_at bytes) (section_count bytes)

-- the place of n bytes at an RVA
abbrev pub place_of : List ℕ → ℕ → ℕ → Option ℕ
place_of bytes rva n = place_by bytes (sections bytes) rva n

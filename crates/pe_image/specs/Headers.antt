-- The headers of a PE file (PE Format, "MS-DOS Stub" to "Section Table"; ECMA-335 II.25.2), as numbers at their places.
use Rattle.std.specs.Prelude.{ℕ, ◌+◌, ◌-◌, List, ◌==◌, if◌then◌else◌}
use Rattle.clr_base.specs.LittleEndian.{u16_at, u32_at}

-- the place of the PE signature
unfoldable pub pe_at : List ℕ → ℕ
pe_at bytes = u32_at bytes 0x3c

unfoldable pub section_count : List ℕ → ℕ
section_count bytes = u16_at bytes (pe_at bytes + 6)

unfoldable pub optional_size : List ℕ → ℕ
optional_size bytes = u16_at bytes (pe_at bytes + 20)

abbrev pub optional_at : List ℕ → ℕ
optional_at bytes = pe_at bytes + 24

unfoldable pub magic : List ℕ → ℕ
magic bytes = u16_at bytes (optional_at bytes)

-- where the data directories begin in the optional header: it is longer in PE32+
unfoldable pub directories : List ℕ → ℕ
directories bytes = if magic bytes == 0x20b then 112 else 96

unfoldable pub directory_count : List ℕ → ℕ
directory_count bytes = u32_at bytes (optional_at bytes + directories bytes - 4)

-- directory 14
unfoldable pub cli_rva : List ℕ → ℕ
cli_rva bytes = u32_at bytes (optional_at bytes + directories bytes + 112)

abbrev pub sections_at : List ℕ → ℕ
sections_at bytes = optional_at bytes + optional_size bytes

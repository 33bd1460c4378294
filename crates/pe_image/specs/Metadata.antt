-- The checks of a file up to its metadata, in order.
use Rattle.std.specs.Prelude.{ℕ, ◌+◌, ◌*◌, List, [], ◌∷◌, ◌++◌, Bool, ◌&&◌, ◌||◌, not, nat_le, ◌==◌, Option, is_some, Result}
use Rattle.std.specs.Option.{unwrap_or}
use Rattle.clr_base.specs.declared.image_fault.ImageFault.{ImageFault}
use Rattle.pe_image.specs.declared.headers.Headers.{Headers}
use Rattle.pe_image.specs.declared.locate.Places.{Places}
use Rattle.clr_base.specs.declared.image_fault.FaultKind.TheVariants.{NotPe, NoCli, OutsideFile}
use Rattle.clr_base.specs.LittleEndian.{u16_at, u32_at, has_range}
use Rattle.clr_base.specs.Checks.{Check, check, outcome}
use Rattle.pe_image.specs.Sections.{place_of}
use Rattle.pe_image.specs.Headers.{pe_at, optional_at, optional_size, magic, directories, directory_count, cli_rva, section_count, sections_at}

-- `MZ`
abbrev pub has_dos_header : List ℕ → Bool
has_dos_header bytes = has_range bytes 0 64 && u16_at bytes 0 == 0x5a4d

-- `PE` and two zeros
abbrev pub has_pe_header : List ℕ → Bool
has_pe_header bytes = has_range bytes (pe_at bytes) 24 && u32_at bytes (pe_at bytes) == 0x4550

abbrev pub has_optional_header : List ℕ → Bool
has_optional_header bytes = has_range bytes (optional_at bytes) (optional_size bytes) && nat_le 2 (optional_size bytes) && (magic bytes == 0x10b || magic bytes == 0x20b)

abbrev pub has_cli_directory : List ℕ → Bool
has_cli_directory bytes = nat_le (directories bytes + 120) (optional_size bytes) && nat_le 15 (directory_count bytes) && not (cli_rva bytes == 0)

abbrev pub has_section_table : List ℕ → Bool
has_section_table bytes = has_range bytes (sections_at bytes) (40 * section_count bytes)

unfoldable pub header_checks : List ℕ → List Check
header_checks bytes =
    check (has_dos_header bytes) NotPe 0
    ∷ check (has_pe_header bytes) NotPe (pe_at bytes)
    ∷ check (has_optional_header bytes) NotPe (optional_at bytes)
    ∷ check (has_cli_directory bytes) NoCli (optional_at bytes)
    ∷ check (has_section_table bytes) NotPe (sections_at bytes)
    ∷ []

-- what the headers say of the parts behind them
abbrev pub headers_of : List ℕ → Headers
headers_of bytes = record { sections_at = sections_at bytes; section_count = section_count bytes; cli_rva = cli_rva bytes }

-- the CLI header (II.25.3.3) is where directory 14 says
abbrev pub cli_header : List ℕ → Option ℕ
cli_header bytes = place_of bytes (cli_rva bytes) 72

abbrev pub metadata_rva : List ℕ → ℕ
metadata_rva bytes = u32_at bytes (unwrap_or (cli_header bytes) 0 + 8)

abbrev pub metadata_size : List ℕ → ℕ
metadata_size bytes = u32_at bytes (unwrap_or (cli_header bytes) 0 + 12)

abbrev pub metadata_range : List ℕ → Option ℕ
metadata_range bytes = place_of bytes (metadata_rva bytes) (metadata_size bytes)

unfoldable pub range_checks : List ℕ → List Check
range_checks bytes =
    check (is_some (cli_header bytes)) OutsideFile (cli_rva bytes)
    ∷ check (is_some (metadata_range bytes)) OutsideFile (metadata_rva bytes)
    ∷ []

unfoldable pub places : List ℕ → Places
places bytes = record {
  meta_start = unwrap_or (metadata_range bytes) 0;
  meta_len = metadata_size bytes;
  sections_at = sections_at bytes;
  section_count = section_count bytes;
}

abbrev pub metadata_checks : List ℕ → List Check
metadata_checks bytes = header_checks bytes ++ range_checks bytes

-- the places of the metadata and the section table, or the first fault
abbrev pub metadata_of : List ℕ → Result Places ImageFault
metadata_of bytes = outcome (metadata_checks bytes) (places bytes)

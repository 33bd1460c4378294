-- The metadata root (ECMA-335 II.24.2.1): a signature, a version text, and how many streams there are.
use Rattle.std.specs.Prelude.{ℕ, ◌+◌, ◌*◌, ◌/◌, List, [], ◌∷◌, Bool, ◌&&◌, ◌==◌}
use Rattle.clr_base.specs.declared.image_fault.FaultKind.TheVariants.{BadRoot}
use Rattle.clr_base.specs.Checks.{Check, check}
use Rattle.clr_base.specs.LittleEndian.{u16_at, u32_at, has_range}
use Rattle.cli_tables.specs.declared.root.Root.{Root}

-- the version text is padded to a multiple of 4
unfoldable pub version_len : List ℕ → ℕ
version_len meta = 4 * ((u32_at meta 12 + 3) / 4)

-- behind the text stand the flags, the number of streams and the stream headers
unfoldable pub root_of : List ℕ → Root
root_of meta = record { headers_at = 20 + version_len meta; stream_count = u16_at meta (18 + version_len meta) }

-- `BSJB`, and all up to the stream headers is inside
abbrev pub has_root : List ℕ → Bool
has_root meta = has_range meta 0 (20 + version_len meta) && u32_at meta 0 == 0x424a5342

unfoldable pub root_checks : List ℕ → List Check
root_checks meta = check (has_root meta) BadRoot 0 ∷ []

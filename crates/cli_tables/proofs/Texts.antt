-- Bytes that are UTF-8, and bytes that aren't.
use Rattle.std.proofs.Common.{◌≡◌, ℕ, List, Bool, true, false, refl, Ok, Err, Some}
use Rattle.std.specs.Str.{IsUtf8, is_utf8}
use Rattle.std.proofs.lemmas.Str.{IsUtf8-from_is_utf8, is_utf8-from_IsUtf8}
use Rattle.clr_base.specs.declared.image_fault.FaultKind.TheVariants.{BadText}
use Rattle.cli_tables.specs.Heaps.{text_of}

pub good_text : (bytes : List ℕ) → IsUtf8 bytes → text_of (Some bytes) ≡ Ok bytes
good_text bytes good = rw (is_utf8-from_IsUtf8 bytes good) refl

not_utf8 : (bytes : List ℕ) (b : Bool) → is_utf8 bytes ≡ b → ¬ (IsUtf8 bytes) → is_utf8 bytes ≡ false
not_utf8 bytes true e bad = absurd (bad (IsUtf8-from_is_utf8 bytes e))
not_utf8 bytes false e bad = e

pub bad_text : (bytes : List ℕ) → ¬ (IsUtf8 bytes) → text_of (Some bytes) ≡ Err BadText
bad_text bytes bad = rw (not_utf8 bytes (is_utf8 bytes) refl bad) refl

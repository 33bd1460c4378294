-- Where all checks pass, each of them does; so the places that `metadata` answers are those of the headers.
use Rattle.std.proofs.Common.{◌≡◌, ℕ, zero, suc, ◌+◌, ◌*◌, ◌<◌, ◌≤◌, Bool, true, false, cond, List, [], ◌∷◌, length, Result, Ok, Err, refl, sym, ap, arith, get_or}
use Rattle.std.specs.List.{find}
use Rattle.std.proofs.lemmas.Bool.{leb-true}
use Rattle.clr_base.specs.declared.image_fault.ImageFault.{ImageFault}
use Rattle.clr_base.specs.declared.image_fault.FaultKind.TheVariants.{NotPe}
use Rattle.clr_base.specs.Checks.{Check, outcome}
use Rattle.clr_base.proofs.Checks.{outcome_value, passes_at}
use Rattle.pe_image.specs.Sections.{covers, sections, table_at}
use Rattle.pe_image.specs.declared.locate.Places.{Places}
use Rattle.pe_image.specs.Metadata.{metadata_checks, metadata_of, header_checks, has_section_table, places}

-- what `metadata` answers of a file
pub record AreFound (bytes : List ℕ) (found : Places) : Type 0 where
  pub is : found ≡ places bytes
  pub table : found.sections_at + 40 * found.section_count ≤ length bytes

table_passes : (bytes : List ℕ) (found : Places) → metadata_of bytes ≡ Ok found → has_section_table bytes ≡ true
unfolding header_checks
table_passes bytes found e =
    passes_at (metadata_checks bytes) 4 (record { passes = true; fault = record { kind = NotPe; place = 0 } }) (places bytes) found (omega arith) e

pub are_found : (bytes : List ℕ) (found : Places) → metadata_of bytes ≡ Ok found → AreFound bytes found
unfolding places
are_found bytes found e =
    let is : found ≡ places bytes = outcome_value (metadata_checks bytes) (places bytes) found e in
    let table = table_passes bytes found e in
    record { is = is; table = rw is (leb-true _ _ table) }

-- the section table that `metadata` answered is the file's
pub sections_found : (bytes : List ℕ) (found : Places) → metadata_of bytes ≡ Ok found → table_at bytes found.sections_at found.section_count ≡ sections bytes
unfolding places
sections_found bytes found e = ap (λ (p : Places). table_at bytes p.sections_at p.section_count) (are_found bytes found e).is

pub section_found : (bytes : List ℕ) (found : Places) (rva : ℕ) → metadata_of bytes ≡ Ok found
    → find (covers rva) (table_at bytes found.sections_at found.section_count) ≡ find (covers rva) (sections bytes)
section_found bytes found rva e = ap (find (covers rva)) (sections_found bytes found e)

-- The metadata of a file that passes the checks of its headers lies in the file; and how the parts of a file's checks join.
use Rattle.std.proofs.Common.{◌≡◌, ℕ, ◌+◌, ◌≤◌, Bool, true, false, ◌&&◌, cond, List, [], length, Option, None, Some, is_some, unwrap_or, Ok, Err, refl, sym, ap, ◌∙◌, subst, arith, slice_range}
use Rattle.std.proofs.lemmas.Bool.{leb-true}
use Rattle.std.proofs.lemmas.List.{append-nil}
use Rattle.std.specs.Option.{option_and_then}
use Rattle.std.specs.List.{find}
use Rattle.clr_base.specs.declared.image_fault.ImageFault.{ImageFault}
use Rattle.clr_base.specs.declared.image_fault.FaultKind.TheVariants.{NotPe}
use Rattle.clr_base.specs.Checks.{Check, outcome, first_fault}
use Rattle.clr_base.proofs.Checks.{outcome_failed, outcome_passed, outcome_value, outcome_of_fault, passes_at}
use Rattle.pe_image.specs.declared.locate.Places.{Places}
use Rattle.pe_image.specs.declared.sections.Section.{Section}
use Rattle.pe_image.specs.Metadata.{header_checks, range_checks, metadata_checks, metadata_of, metadata_range, metadata_rva, metadata_size, places}
use Rattle.pe_image.specs.Sections.{covers, place_in, place_by, sections}
use Rattle.cli_tables.specs.Metadata.{Metadata, read_checks, read_of}
use Rattle.image_rows.specs.Rows.{rows_checks}
use Rattle.image_rows.specs.SignatureChecks.{signature_checks}
use Rattle.image_rows.specs.Image.{metadata_bytes, metadata_in, place_checks, content_checks, tables_of, image_of}

last_of_both : (a b : Bool) → (a && b) ≡ true → b ≡ true
last_of_both true b e = e
last_of_both false b e = cc

placed : (good : Bool) (x at : ℕ) → cond good (Some x) None ≡ Some at → (good ≡ true) × (x ≡ at)
placed true x at e = (refl, cc)
placed false x at e = cc

-- what a section places lies in the file
pub inside_by : (bytes : List ℕ) (rva n : ℕ) (s : Option Section) (at : ℕ) → option_and_then (place_in bytes rva n) s ≡ Some at → at + n ≤ length bytes
inside_by bytes rva n None at e = cc
inside_by bytes rva n (Some s) at e =
    let p = placed _ _ at e in
    subst (λ (x : ℕ). x + n ≤ length bytes) p.1 (leb-true _ _ (last_of_both _ _ p.0))

found : (o : Option ℕ) → is_some o ≡ true → o ≡ Some (unwrap_or o 0)
found None e = cc
found (Some x) e = refl

inside_of : (bytes : List ℕ) (rva n : ℕ) → is_some (place_by bytes (sections bytes) rva n) ≡ true → unwrap_or (place_by bytes (sections bytes) rva n) 0 + n ≤ length bytes
unfolding place_by
inside_of bytes rva n e = inside_by bytes rva n (find (covers rva) (sections bytes)) _ (found (place_by bytes (sections bytes) rva n) e)

range_passes : (bytes : List ℕ) (p : Places) → metadata_of bytes ≡ Ok p → is_some (metadata_range bytes) ≡ true
unfolding header_checks range_checks
range_passes bytes p e =
    passes_at (metadata_checks bytes) 6 (record { passes = true; fault = record { kind = NotPe; place = 0 } }) (places bytes) p (omega arith) e

pub is_inside : (bytes : List ℕ) (p : Places) → metadata_of bytes ≡ Ok p → p.meta_start + p.meta_len ≤ length bytes
unfolding places
is_inside bytes p e =
    let is : p ≡ places bytes = outcome_value (metadata_checks bytes) (places bytes) p e in
    rw is (inside_of bytes (metadata_rva bytes) (metadata_size bytes) (range_passes bytes p e))

-- the bytes of the metadata, by the places that were found
abbrev pub found_bytes : List ℕ → Places → List ℕ
found_bytes bytes p = slice_range bytes p.meta_start (p.meta_start + p.meta_len)

-- A file whose headers fail is refused so.
pub headers_fail : (bytes : List ℕ) (f : ImageFault) → metadata_of bytes ≡ Err f → tables_of bytes ≡ Err f
headers_fail bytes f e = outcome_failed (metadata_checks bytes) (read_checks (metadata_bytes bytes)) (places bytes) (metadata_in bytes) f e

-- Where they pass, the streams and tables decide.
pub headers_pass : (bytes : List ℕ) (p : Places) → metadata_of bytes ≡ Ok p → read_of (found_bytes bytes p) ≡ tables_of bytes
unfolding metadata_bytes
headers_pass bytes p e =
    let same : found_bytes bytes p ≡ metadata_bytes bytes = ap (found_bytes bytes) (outcome_value (metadata_checks bytes) (places bytes) p e) in
    ap read_of same ∙ sym (outcome_passed (metadata_checks bytes) (read_checks (metadata_bytes bytes)) (places bytes) p (metadata_in bytes) e)

-- A file whose tables don't stand in it is refused so.
pub tables_fail : (bytes : List ℕ) (f : ImageFault) → tables_of bytes ≡ Err f → image_of bytes ≡ Err f
tables_fail bytes f e = outcome_failed (place_checks bytes) (content_checks (metadata_in bytes)) (metadata_in bytes) (metadata_in bytes) f e

tables_pass : (bytes : List ℕ) (m : Metadata) → tables_of bytes ≡ Ok m
    → (m ≡ metadata_in bytes) × (image_of bytes ≡ outcome (content_checks (metadata_in bytes)) (metadata_in bytes))
tables_pass bytes m e = (
  outcome_value (place_checks bytes) (metadata_in bytes) m e,
  outcome_passed (place_checks bytes) (content_checks (metadata_in bytes)) (metadata_in bytes) m (metadata_in bytes) e,
)

-- So is one whose rows fail.
pub rows_fail : (bytes : List ℕ) (m : Metadata) (f : ImageFault) → tables_of bytes ≡ Ok m → first_fault (rows_checks m) ≡ Err f → image_of bytes ≡ Err f
rows_fail bytes m f e rows =
    let both = tables_pass bytes m e in
    let same : first_fault (rows_checks (metadata_in bytes)) ≡ Err f = ap (λ v. first_fault (rows_checks v)) (sym both.0) ∙ rows in
    both.1 ∙ outcome_failed (rows_checks (metadata_in bytes)) (signature_checks (metadata_in bytes)) (tt {0}) (metadata_in bytes) f same

-- the rows pass, so the signatures decide
rows_pass : (bytes : List ℕ) (m : Metadata) → tables_of bytes ≡ Ok m → first_fault (rows_checks m) ≡ Ok (tt {0})
    → image_of bytes ≡ outcome (signature_checks (metadata_in bytes)) (metadata_in bytes)
rows_pass bytes m e rows =
    let both = tables_pass bytes m e in
    let same : first_fault (rows_checks (metadata_in bytes)) ≡ Ok (tt {0}) = ap (λ v. first_fault (rows_checks v)) (sym both.0) ∙ rows in
    both.1 ∙ outcome_passed (rows_checks (metadata_in bytes)) (signature_checks (metadata_in bytes)) (tt {0}) (tt {0}) (metadata_in bytes) same

-- And one whose signatures fail.
pub signatures_fail : (bytes : List ℕ) (m : Metadata) (f : ImageFault) → tables_of bytes ≡ Ok m → first_fault (rows_checks m) ≡ Ok (tt {0})
    → first_fault (signature_checks m) ≡ Err f → image_of bytes ≡ Err f
signatures_fail bytes m f e rows signatures =
    let both = tables_pass bytes m e in
    let same : first_fault (signature_checks (metadata_in bytes)) ≡ Err f = ap (λ v. first_fault (signature_checks v)) (sym both.0) ∙ signatures in
    rows_pass bytes m e rows ∙ outcome_of_fault (signature_checks (metadata_in bytes)) (tt {0}) (metadata_in bytes) f same

-- Checks that pass give whatever value they are to give.
pub passed_value : {X Y : Type 0} (checks : List Check) (x z : X) (y : Y) → outcome checks x ≡ Ok z → outcome checks y ≡ Ok y
passed_value checks x z y e = ap (λ cs. outcome cs y) (sym (append-nil checks)) ∙ outcome_passed checks [] x z y e

pub all_pass : (bytes : List ℕ) (m : Metadata) → tables_of bytes ≡ Ok m → first_fault (rows_checks m) ≡ Ok (tt {0})
    → first_fault (signature_checks m) ≡ Ok (tt {0}) → image_of bytes ≡ Ok m
all_pass bytes m e rows signatures =
    let both = tables_pass bytes m e in
    let same : first_fault (signature_checks (metadata_in bytes)) ≡ Ok (tt {0}) = ap (λ v. first_fault (signature_checks v)) (sym both.0) ∙ signatures in
    rows_pass bytes m e rows ∙ passed_value (signature_checks (metadata_in bytes)) (tt {0}) (tt {0}) (metadata_in bytes) same ∙ ap (λ (v : Metadata). Ok v) (sym both.0)

-- The bodies of a file's methods lie in its bytes.
use Rattle.std.proofs.Common.{◌≡◌, ℕ, ◌+◌, ◌≤◌, true, List, length, Option, None, Some, Result, Ok, Err, refl, ap, ◌∙◌, arith}
use Rattle.std.specs.Prelude.{◌==◌}
use Rattle.std.specs.Option.{option_map, option_and_then}
use Rattle.std.specs.List.{find}
use Rattle.std.proofs.lemmas.Bool.{le-leb}
use Rattle.clr_base.specs.declared.image_fault.ImageFault.{ImageFault}
use Rattle.cli_tables.specs.Metadata.{Metadata}
use Rattle.pe_image.specs.declared.bodies.BodyRange.{BodyRange}
use Rattle.pe_image.specs.declared.locate.Places.{Places}
use Rattle.pe_image.specs.Bodies.{body_len, range_at, range_by, body_range}
use Rattle.pe_image.specs.Metadata.{metadata_of}
use Rattle.pe_image.specs.Sections.{covers, place_by, sections}
use Rattle.type_tree.specs.declared.parts.BodyPlace.{BodyPlace}
use Rattle.type_tree.specs.declared.parts.WorldFile.{WorldFile}
use Rattle.type_tree.specs.Bodies.{bytes_of}
use Rattle.type_tree.specs.Tokens.{file_at}
use Rattle.type_tree.specs.Whole.{place_fits}
use Rattle.world_build.specs.Bodies.{place_in, range_if, body_of}
use Rattle.image_rows.specs.Cells.{at}
use Rattle.image_rows.proofs.Inside.{inside_by}
use Rattle.clr_base.proofs.ListFacts.{choose}

placed_inside : (bytes : List ℕ) (rva n start : ℕ) → place_by bytes (sections bytes) rva n ≡ Some start → start + n ≤ length bytes
unfolding place_by
placed_inside bytes rva n start e = inside_by bytes rva n (find (covers rva) (sections bytes)) start e

range_at_inside : (bytes : List ℕ) (n : ℕ) (o : Option ℕ) (r : BodyRange) → ((start : ℕ) → o ≡ Some start → start + n ≤ length bytes)
    → option_map (λ (start : ℕ). let range : BodyRange = record { start = start; len = n } in range) o ≡ Some r → r.start + r.len ≤ length bytes
range_at_inside bytes n None r within e = absurd cc
range_at_inside bytes n (Some start) r within e =
    let first : start ≡ r.start = cc in
    let len : n ≡ r.len = cc in
    omega (arith, within start refl)

of_len : (bytes : List ℕ) (rva : ℕ) (o : Option ℕ) (r : BodyRange) → option_and_then (λ n. range_at bytes (sections bytes) rva n) o ≡ Some r → r.start + r.len ≤ length bytes
of_len bytes rva None r e = absurd cc
of_len bytes rva (Some n) r e = range_at_inside bytes n (place_by bytes (sections bytes) rva n) r (placed_inside bytes rva n) e

of_first : (bytes : List ℕ) (rva : ℕ) (o : Option ℕ) (r : BodyRange)
    → option_and_then (λ at. option_and_then (λ n. range_at bytes (sections bytes) rva n) (body_len bytes at)) o ≡ Some r → r.start + r.len ≤ length bytes
of_first bytes rva None r e = absurd cc
of_first bytes rva (Some at) r e = of_len bytes rva (body_len bytes at) r e

range_inside : (bytes : List ℕ) (rva : ℕ) (r : BodyRange) → body_range bytes rva ≡ Some r → r.start + r.len ≤ length bytes
unfolding range_by
range_inside bytes rva r e = of_first bytes rva (place_by bytes (sections bytes) rva 1) r e

-- ---- the place of a body in a list of files

module _ (files : List WorldFile) (file : ℕ) (bytes : List ℕ) (is : bytes_of (file_at files file) ≡ bytes) where
  place_good : (p : BodyPlace) → p.file ≡ file → p.start + p.len ≤ length bytes → place_fits files (Some p) ≡ true
  place_good p same inside =
      let there : bytes_of (file_at files p.file) ≡ bytes = ap (λ (n : ℕ). bytes_of (file_at files n)) same ∙ is in
      le-leb _ _ (omega (arith, inside, ap length there))

  range_good : (o : Option BodyRange) → ((r : BodyRange) → o ≡ Some r → r.start + r.len ≤ length bytes) → place_fits files (Some (place_in file o)) ≡ true
  range_good None within = place_good (record { file = file; start = 0; len = 0 }) refl (omega arith)
  range_good (Some r) within = place_good (record { file = file; start = r.start; len = r.len }) refl (within r refl)

  if_good : (p : Result Places ImageFault) (rva : ℕ) → place_fits files (Some (place_in file (range_if p bytes rva))) ≡ true
  if_good (Ok places) rva = range_good (body_range bytes rva) (range_inside bytes rva)
  if_good (Err fault) rva = range_good None (λ r e. absurd cc)

  pub body_fits : (m : Metadata) (row : ℕ) → place_fits files (body_of bytes file m row) ≡ true
  unfolding body_of
  body_fits m row =
      choose (λ o. place_fits files o ≡ true) (at m 0x06 row 0 == 0) _ _ (λ _. refl) (λ _. if_good (metadata_of bytes) (at m 0x06 row 0))

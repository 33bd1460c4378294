-- Where the bodies of a file's methods stand (ECMA-335 II.22.26, II.25.4).
use Rattle.std.specs.Prelude.{◌≡◌, ℕ, List, is_some, is_ok, IfSome, map, ◌==◌, Option, None, Some, Result, Ok, Err, if◌then◌else◌}
use Rattle.clr_base.specs.declared.image_fault.ImageFault.{ImageFault}
use Rattle.cli_tables.specs.Metadata.{Metadata}
use Rattle.pe_image.specs.declared.bodies.BodyRange.{BodyRange}
use Rattle.pe_image.specs.declared.locate.Places.{Places}
use Rattle.pe_image.specs.declared.section_map.SectionMap.{SectionMap}
use Rattle.pe_image.specs.Bodies.{body_range}
use Rattle.pe_image.specs.Metadata.{metadata_of}
use Rattle.pe_image.specs.SectionMap.{Maps}
use Rattle.type_tree.specs.declared.parts.BodyPlace.{BodyPlace}
use Rattle.image_rows.specs.Cells.{rows_of, at}

-- where a body stands in a file with a number; one that is refused has no bytes
abbrev pub place_in : ℕ → Option BodyRange → BodyPlace
place_in file None = record { file = file; start = 0; len = 0 }
place_in file (Some r) = record { file = file; start = r.start; len = r.len }

-- the body at an RVA; there is none in a file whose headers fail, which is not read
abbrev pub range_if : Result Places ImageFault → List ℕ → ℕ → Option BodyRange
range_if (Ok places) bytes rva = body_range bytes rva
range_if (Err fault) bytes rva = None

-- the sorted sections of a file, none of one whose headers fail
pub record AreOf (headers : Result Places ImageFault) (bytes : List ℕ) (found : Option SectionMap) : Type 0 where
  pub whole : is_some found ≡ is_ok headers
  pub each : IfSome found (λ map. Maps bytes map)

-- the place of a method's body, none where its RVA is 0
unfoldable pub body_of : List ℕ → ℕ → Metadata → ℕ → Option BodyPlace
body_of bytes file m row =
    if at m 0x06 row 0 == 0 then None else Some (place_in file (range_if (metadata_of bytes) bytes (at m 0x06 row 0)))

-- those of all rows of MethodDef
unfoldable pub file_bodies : List ℕ → ℕ → Metadata → List (Option BodyPlace)
file_bodies bytes file m = map (body_of bytes file m) (rows_of m 0x06)

-- What the sorted sections of a file say of a body, where its headers are read and where they fail.
use Rattle.std.proofs.Common.{◌≡◌, ℕ, List, Option, None, Some, Result, Ok, Err, refl, true, false}
use Rattle.std.specs.Prelude.{is_ok, is_some}
use Rattle.clr_base.specs.declared.image_fault.ImageFault.{ImageFault}
use Rattle.pe_image.specs.declared.bodies.BodyRange.{BodyRange}
use Rattle.pe_image.specs.declared.locate.Places.{Places}
use Rattle.pe_image.specs.Bodies.{body_range}
use Rattle.world_build.specs.Bodies.{range_if}

pub range_of_read : (headers : Result Places ImageFault) (bytes : List ℕ) (rva : ℕ) → true ≡ is_ok headers → body_range bytes rva ≡ range_if headers bytes rva
range_of_read (Ok places) bytes rva e = refl
range_of_read (Err fault) bytes rva e = absurd cc

pub range_of_failed : (headers : Result Places ImageFault) (bytes : List ℕ) (rva : ℕ) → false ≡ is_ok headers
    → (let none : Option BodyRange = None in none) ≡ range_if headers bytes rva
range_of_failed (Ok places) bytes rva e = absurd cc
range_of_failed (Err fault) bytes rva e = refl

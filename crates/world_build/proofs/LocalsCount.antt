-- How many local variables a row lists, by where they stand.
use Rattle.std.proofs.Common.{◌≡◌, ℕ, List, length, Option, None, Some, refl}
use Rattle.std.specs.Option.{option_map, option_map_or}
use Rattle.cli_sigs.specs.declared.signature.SigTy.{SigTy}
use Rattle.type_tree.specs.declared.parts.Locals.{Locals}
use Rattle.image_files.specs.Signatures.{listed}

-- how many a place has
pub count_placed : (first : ℕ) (found : Option (List SigTy))
    → option_map_or (λ (locals : Locals). locals.count) (option_map (λ ts. record { first = record { 0 = first }; count = length ts }) found) 0 ≡ length (listed found)
count_placed first None = refl
count_placed first (Some ts) = refl

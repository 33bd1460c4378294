-- The bytes of the bodies of all methods, by the methods' numbers.
use Rattle.std.specs.Prelude.{ℕ, List, Option, None, length, map, slice_get, unwrap_or}
use Rattle.std.specs.List.{range_with_len}
use Rattle.type_tree.specs.World.{Facts}
use Rattle.type_tree.specs.Bodies as bodies

-- those of a world, in the order of its methods; none where a method has no body
abbrev pub table_of : Facts → List (Option (List ℕ))
table_of w = map (bodies.body w) (range_with_len 0 (length w.methods))

-- the bytes of a method's body
abbrev pub bytes_of : List (Option (List ℕ)) → ℕ → Option (List ℕ)
bytes_of table m = unwrap_or (slice_get table m) None

-- what a caller knows of a method's place: the bytes of its body, and those that the table keeps with their body
pub record Asked : Type 0 where
  pub bytes : Option (List ℕ)
  pub kept : Option (List ℕ)

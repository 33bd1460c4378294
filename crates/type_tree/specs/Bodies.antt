-- The bytes of method bodies.
use Rattle.std.specs.Prelude.{ℕ, ◌+◌, List, [], Option, None, Some, slice_get, slice_range, unwrap_or}
use Rattle.std.specs.Option.{option_map}
use Rattle.type_tree.specs.declared.parts.BodyPlace.{BodyPlace}
use Rattle.type_tree.specs.declared.parts.WorldFile.{WorldFile}
use Rattle.type_tree.specs.World.{Facts}
use Rattle.type_tree.specs.Tokens.{file_at}

abbrev pub bytes_of : Option WorldFile → List ℕ
bytes_of None = []
bytes_of (Some f) = f.bytes

-- the bytes at a place
abbrev pub bytes_at : List WorldFile → BodyPlace → List ℕ
bytes_at files p = slice_range (bytes_of (file_at files p.file)) p.start (p.start + p.len)

-- the body of a method, where it has one
abbrev pub body : Facts → ℕ → Option (List ℕ)
body w m = option_map (bytes_at w.files) (unwrap_or (slice_get w.bodies m) None)

-- What the definitions of a file are called in a world.
use Rattle.std.specs.Prelude.{ℕ, List, map, filter, ◌==◌}
use Rattle.type_tree.specs.Lookup.{name_text}
use Rattle.type_tree.specs.World.{Facts}

-- the full names of the definitions of the file with a number, in their order; 0 is the core library, and files count from 1
unfoldable pub names_in : Facts → ℕ → List (List ℕ)
names_in w number = map (λ d. name_text w d.name) (filter (λ d. d.file == number) w.defs)

-- What `build` answers: the world of some files with some roots, or why there is none.
use Rattle.std.specs.Prelude.{◌≡◌, List, ℕ, Result, Ok, Err}
use Rattle.type_tree.specs.World.{Facts}
use Rattle.world_build.specs.declared.building.BuildFault.{BuildFault}
use Rattle.world_build.specs.declared.building.BuildFault.TheVariants as fault
use Rattle.world_build.specs.declared.roots.RootForm.{RootForm}
use Rattle.image_files.specs.Images.{images_of}
use Rattle.world_build.specs.Roots.{HasRoots, IsFirstUnnamed}
use Rattle.world_build.specs.World.{world}
use Rattle.image_files.specs.Images.{tables_in}

-- Every file passes its checks.
abbrev pub AreTaken : List (List ℕ) → Type 0
AreTaken files = images_of files ≡ Ok (tables_in files)

-- The world is the files' with the roots that the words name. A file is refused at the first of its checks that fails, and
-- it is the first file that has one; the word is the first that names nothing, in a world of files that are taken. Want of
-- memory says nothing.
abbrev pub GivesWorld : List (List ℕ) → RootForm → List (List ℕ) → Result Facts BuildFault → Type 0
GivesWorld files form words (Ok w) = AreTaken files × HasRoots (world files) form words w
GivesWorld files form words (Err (fault.Image number f)) = images_of files ≡ Err (number, f)
GivesWorld files form words (Err (fault.NoName word)) = AreTaken files × IsFirstUnnamed (world files) form words word
GivesWorld files form words (Err fault.Memory) = Unit {0}

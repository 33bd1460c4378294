-- Choices that were found, over a pool.
use Rattle.std.specs.Prelude.{◌≡◌, ℕ, List, [], ◌∷◌}
use Rattle.clr_base.specs.declared.ids.MethId.{MethId}
use Rattle.type_tree.specs.declared.tree.Ty.{Ty}
use Rattle.type_pool.specs.Trees.{Spells}
use Rattle.interface_maps.specs.declared.answers.Interface.{Interface}
use Rattle.interface_maps.specs.Choices.{Answered}

-- what was found of one interface is so
pub record IsFound (ts : List Ty) (f : Interface) (a : Answered) : Type 0 where
  pub tree : Spells ts f.tree a.interface
  pub choices : f.choices ≡ a.choices

-- and so of each
abbrev pub AreFound : List Ty → List Interface → List Answered → Type 0
AreFound ts [] [] = Unit {0}
AreFound ts [] (a ∷ rest) = ⊥
AreFound ts (f ∷ fs) [] = ⊥
AreFound ts (f ∷ fs) (a ∷ rest) = IsFound ts f a × AreFound ts fs rest

abbrev pub number : MethId → ℕ
number id = id.0

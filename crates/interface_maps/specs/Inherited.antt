-- What a parent answers for interfaces, over a pool.
use Rattle.std.specs.Prelude.{◌≡◌, ℕ, suc, nat_eq, cond, List, [], ◌∷◌, map, Option, None, Some, slice_get}
use Rattle.std.specs.HashMap.{get}
use Rattle.std.specs.Option.{option_and_then, option_map}
use Rattle.type_tree.specs.declared.tree.Ty.{Ty}
use Rattle.type_pool.specs.declared.nodes.Id.{Id}
use Rattle.type_pool.specs.Jobs.{SpellAll}
use Rattle.type_pool.specs.Trees.{at}
use Rattle.method_slots.specs.Chains.{flat}
use Rattle.interface_maps.specs.declared.answers.Interface.{Interface}
use Rattle.interface_maps.specs.Choices.{Answered, inherited_choice}
use Rattle.interface_maps.specs.Publics.{Numbers}

-- These are a parent's answers: their interfaces, with the parent's arguments put in, have these numbers, and their choices stand in
-- what was found of the parent.
pub record AreAbove (ts : List Ty) (trees : List Id) (found : List Interface) (above : List Answered) : Type 0 where
  pub interfaces : SpellAll ts trees (map (λ (a : Answered). a.interface) above)
  pub choices : map (λ (f : Interface). f.choices) found ≡ map (λ (a : Answered). a.choices) above

-- the first place of the number k
abbrev pub first_place : ℕ → List Id → Option ℕ
first_place k [] = None
first_place k (t ∷ ts) = cond (nat_eq t.0 k) (Some 0) (option_map (λ i. suc i) (first_place k ts))

-- for each number its first place is noted
abbrev pub ArePlaces : Numbers → List Id → Type 0
ArePlaces places trees = (k : ℕ) → get nat_eq places k ≡ first_place k trees

-- the choice that stands at j in what was found at a place
abbrev pub choice_at : List Interface → ℕ → Option ℕ → Option ℕ
choice_at found j place = option_and_then (λ p. option_and_then (λ (f : Interface). flat (slice_get f.choices j)) (slice_get found p)) place

-- what the parent has for the method at j of this interface
abbrev pub FindsInherited : List Ty → Numbers → List Interface → Id → ℕ → Option ℕ → Type 0
FindsInherited ts places found t j choice = (trees : List Id) (above : List Answered) → ArePlaces places trees → AreAbove ts trees found above
    → choice ≡ inherited_choice above (at ts t) j

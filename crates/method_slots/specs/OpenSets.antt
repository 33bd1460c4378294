-- Names and signatures that stand once.
use Rattle.std.specs.Prelude.{◌≡◌, ℕ, List, ◌++◌, Some, slice_get}
use Rattle.type_pool.specs.Trees.{AddsAtMost}
use Rattle.method_slots.specs.declared.opens.OpenMethod.{OpenMethod}

abbrev pub OpensOnce : List OpenMethod → Type 0
OpensOnce os = (i j : ℕ) (o : OpenMethod) → slice_get os i ≡ Some o → slice_get os j ≡ Some o → i ≡ j

-- the new list has what the old one had, at the same places
abbrev pub OpensGrow : List OpenMethod → List OpenMethod → Type 0
OpensGrow old new = (more : List OpenMethod) × (new ≡ old ++ more)

-- what follows where one is looked up, and added where it is new
pub record OpenPut (old new : List OpenMethod) (i : ℕ) (o : OpenMethod) : Type 0 where
  pub once : OpensOnce new
  pub grows : OpensGrow old new
  pub adds : AddsAtMost old new o
  pub here : slice_get new i ≡ Some o

-- The closure of x: what it needs directly, and what that needs, each once, in the order in which it is found.
use Rattle.std.specs.Prelude.{◌≡◌, ◌⊎◌, ◌≤◌, ℕ, zero, suc, Bool, true, List, [], ◌∷◌, ◌++◌, length, Contains, Option, Some, None, slice_get}

-- what is listed, and then x, unless it is listed already
abbrev pub Adds : {X : Type 0} → List X → X → List X → Type 0
Adds listed x after = (Contains listed x × (after ≡ listed)) ⊎ ((Contains listed x → ⊥) × (after ≡ listed ++ x ∷ []))

-- what is listed, and then those of xs that aren't yet, each once
abbrev pub AddsAll : {X : Type 0} → List X → List X → List X → Type 0
AddsAll listed [] after = after ≡ listed
AddsAll {X} listed (x ∷ xs) after = (more : List X) × Adds listed x more × AddsAll more xs after

abbrev pub needs_of : {X : Type 0} → (X → List X) → Option X → List X
needs_of needs None = []
needs_of needs (Some x) = needs x

-- What is listed after so many turns: x before the first one; each turn takes the next one that is listed,
-- and lists what it needs and isn't listed yet.
abbrev pub Listed : {X : Type 0} → (X → List X) → X → ℕ → List X → Type 0
Listed needs x zero listed = listed ≡ x ∷ []
Listed {X} needs x (suc n) listed = (before : List X) × Listed needs x n before × AddsAll before (needs_of needs (slice_get before n)) listed

-- after these turns each one that is listed was taken
pub record IsWhole {X : Type 0} (needs : X → List X) (x : X) (members : List X) : Type 0 where
  pub turns : ℕ
  pub listed : Listed needs x turns members
  pub taken : length members ≤ turns

-- the least set that has x, and what its members need
pub record IsLeast {X : Type 0} (needs : X → List X) (x : X) (members : List X) : Type 0 where
  pub root : Contains members x
  pub closed : (y z : X) → Contains members y → Contains (needs y) z → Contains members z
  pub least : (S : X → Bool) → S x ≡ true → ((y z : X) → S y ≡ true → Contains (needs y) z → S z ≡ true) → (y : X) → Contains members y → S y ≡ true

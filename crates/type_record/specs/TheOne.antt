-- Answers that tell of one thing.
use Rattle.std.specs.Prelude.{◌≡◌, Option, None, Some}

-- It is the one thing that has the property; or it is none, and nothing has it.
abbrev pub IsTheOne : {X : Type 0} → (X → Type 0) → Option X → Type 0
IsTheOne {X} P None = (x : X) → P x → ⊥
IsTheOne {X} P (Some y) = P y × ((x : X) → P x → x ≡ y)

-- It is such a thing; or it is none, and nothing is such.
abbrev pub IsSuch : {X : Type 0} → (X → Type 0) → Option X → Type 0
IsSuch {X} P None = (x : X) → P x → ⊥
IsSuch P (Some y) = P y

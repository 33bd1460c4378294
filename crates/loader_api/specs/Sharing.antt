-- What the calls of a loader that threads share leave and gain.
use Rattle.std.specs.Prelude.{◌≡◌, ℕ, ◌<◌, ◌≤◌, ◌↔◌, ◌⊎◌, List, [], ◌∷◌, ◌++◌, length, map, Contains}
use mathlib.Core.List.{IsPrefix}
use Rattle.loader_api.specs.declared.shared.ForkFault.{ForkFault}
use Rattle.loader_api.specs.declared.shared.ForkFault.TheVariants.{PassesFull, Memory}
use Rattle.loader_api.specs.declared.view.Kept.{Kept}
use Rattle.loader_api.specs.declared.view.PassView.{PassView}

-- the numbers of the passes that it took in
abbrev pub taken_of : PassView → List ℕ
taken_of v = map (λ k. k.number) v.kept

-- a pass has, took in, or keeps as lost this number
abbrev pub HasNumber : PassView → ℕ → Type 0
HasNumber v n = (n ≡ v.number) ⊎ (Contains (taken_of v) n ⊎ Contains v.lost n)

-- every other pass was taken in
abbrev pub HasAll : PassView → Type 0
HasAll v = ((v.number ≡ 0) ⊎ Contains (taken_of v) 0) × ((n : ℕ) → Contains v.drawn n → HasNumber v n)

-- these are the numbers from 1 to their count
abbrev pub AreFirst : List ℕ → Type 0
AreFirst ns = (n : ℕ) → Contains ns n ↔ ((1 ≤ n) × (n ≤ length ns))

-- the pass keeps its number, its own events, and what it keeps under other numbers; the history goes on
pub record Stays (old new : PassView) : Type 0 where
  pub number : new.number ≡ old.number
  pub own : new.own ≡ old.own
  pub kept : new.kept ≡ old.kept
  pub front : IsPrefix old.front new.front

-- a pass that has seen what its maker had, and has nothing of its own
pub record IsFresh (maker fresh : PassView) : Type 0 where
  pub own : fresh.own ≡ []
  pub kept : fresh.kept ≡ []
  pub drawn : fresh.drawn ≡ []
  pub lost : fresh.lost ≡ []
  pub front : IsPrefix maker.front fresh.front

-- a pass with a new number was made
pub record Forks {P : Type 0} (is_of : P → Type 0) (grows : P → P → Type 0) (view : P → PassView) (old new fork : P) : Type 0 where
  pub of : is_of fork
  pub begins : grows old fork
  pub fresh : IsFresh (view old) (view fork)
  pub drawn : (view new).drawn ≡ (view fork).number ∷ (view old).drawn
  pub lost : (view new).lost ≡ (view old).lost
  pub later : (view old).number < (view fork).number
  pub few : (view fork).number ≤ 4095
  pub above : (n : ℕ) → Contains (view old).drawn n → n < (view fork).number

-- no number was drawn
pub record DrewNone (old new : PassView) : Type 0 where
  pub drawn : new.drawn ≡ old.drawn
  pub lost : new.lost ≡ old.lost

-- a number was drawn and lost
pub record DrewLost (old new : PassView) : Type 0 where
  pub number : ℕ
  pub drawn : new.drawn ≡ number ∷ old.drawn
  pub lost : new.lost ≡ number ∷ old.lost

-- no pass was made
abbrev pub NotForked : PassView → PassView → ForkFault → Type 0
NotForked old new PassesFull = DrewNone old new
NotForked old new Memory = DrewNone old new ⊎ DrewLost old new

-- there are passes enough only where not all numbers were drawn
abbrev pub IsFull : Type 0 → ForkFault → Type 0
IsFull all PassesFull = all
IsFull all Memory = Unit {0}

abbrev pub as_kept : PassView → Kept
as_kept v = record { number = v.number; events = v.own }

-- a pass was taken in
pub record TakesIn {P : Type 0} (is_of : P → Type 0) (grows : P → P → Type 0) (view : P → PassView) (old gone new : P) : Type 0 where
  pub of : is_of new
  pub on : grows old new
  pub over : grows gone new
  pub number : (view new).number ≡ (view old).number
  pub own : (view new).own ≡ (view old).own
  pub kept : (view new).kept ≡ (view old).kept ++ as_kept (view gone) ∷ (view gone).kept
  pub drawn : (view new).drawn ≡ (view old).drawn ++ (view gone).drawn
  pub lost : (view new).lost ≡ (view old).lost ++ (view gone).lost
  pub front : IsPrefix (view old).front (view new).front
  pub gone_front : IsPrefix (view gone).front (view new).front

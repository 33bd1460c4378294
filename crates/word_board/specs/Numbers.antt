-- The numbers of passes: the rule on the number word and on what the views keep of numbers.
use Rattle.std.specs.Prelude.{◌≡◌, ℕ, ◌+◌, ◌<◌, ◌≤◌, List, map, if◌then◌else◌, false}
use mathlib.Core.Option.{some}
use lib.ListN.{get_elem?}
use Rattle.word_board.specs.Weights.{total, below}
use Rattle.word_board.specs.Marks.{Has}
use Rattle.word_board.specs.declared.view.Name.{Name}
use Rattle.word_board.specs.declared.view.Fate.{Fate}
use Rattle.word_board.specs.declared.view.Fate.TheVariants.{Pending, Handed, Lost}
use Rattle.word_board.specs.declared.view.Draw.{Draw}
use Rattle.word_board.specs.declared.view.View.{View}

abbrev pub name : ℕ → Name
name n = record { number = n; over = false }

abbrev pub draw : ℕ → ℕ → Draw
draw n by = record { number = n; by = by; fate = Pending }

abbrev pub numbers : List Name → List ℕ
numbers names = map (λ (n : Name). n.number) names

-- no pass got the number
abbrev pub IsUnhanded : Fate → Type 0
IsUnhanded Pending = Unit {0}
IsUnhanded Handed = ⊥
IsUnhanded Lost = Unit {0}

-- n where no pass got the number, else 0
abbrev pub if_unhanded : Fate → ℕ → ℕ
if_unhanded Pending n = n
if_unhanded Handed n = 0
if_unhanded Lost n = n

abbrev pub unhanded : (ℕ → ℕ) → Draw → ℕ
unhanded f d = if_unhanded d.fate (f d.number)

abbrev pub over : Name → ℕ
over n = if n.over then 1 else 0

-- the weight of the numbers that a view has: its own, those that it took in, and those drawn that no pass got
abbrev pub having : {P : Type 0} → (ℕ → ℕ) → View P → ℕ
having f v = total (λ (n : Name). f n.number) v.names + total (unhanded f) v.drawn

-- the weight of the numbers that a view keeps as drawn
abbrev pub drawing : {P : Type 0} → (ℕ → ℕ) → View P → ℕ
drawing f v = total (λ (d : Draw). f d.number) v.drawn

-- how many of a view's numbers overshot
abbrev pub overs : {P : Type 0} → View P → ℕ
overs v = total over v.names

pub record Numbered {P : Type 0} (word : ℕ) (views : List (View P)) : Type 0 where
  -- the numbers 1 to count were drawn
  pub count : ℕ
  pub few : count ≤ 4095
  -- each drawn number, and 0, is had by one view, once, and no other number is
  pub had : (f : ℕ → ℕ) → total (having f) views ≡ below f (count + 1)
  -- each drawn number is kept as drawn by one view, once, and no other number is
  pub drawn : (f : ℕ → ℕ) → f 0 + total (drawing f) views ≡ below f (count + 1)
  -- the word counts the drawn numbers and those that overshot
  pub counted : word ≡ count + total overs views
  pub overshot : 0 < total overs views → count ≡ 4095
  -- a number is kept as drawn by the view that has the number of the pass that drew it, which is a lower one
  pub made : (j : ℕ) (v : View P) → get_elem? views j ≡ some v → (d : Draw) → Has v.drawn d → (d.by < d.number) × Has (numbers v.names) d.by
  pub least : (j : ℕ) (v : View P) → get_elem? views j ≡ some v → v.least ≤ word

-- The rule of a board, which holds between any two steps.
use Rattle.std.specs.Prelude.{◌≡◌, ℕ, ◌+◌, ◌<◌, List, length, slice_index, Some}
use mathlib.Core.Option.{some}
use lib.ListN.{get_elem?}
use Rattle.atomic_table.specs.Table.{State}
use Rattle.word_board.specs.Weights.{total}
use Rattle.word_board.specs.Marks.{mark, Has, Within, Lawful}
use Rattle.word_board.specs.Numbers.{numbers, Numbered}
use Rattle.word_board.specs.declared.view.Mark.{Mark}
use Rattle.word_board.specs.declared.view.View.{View}

-- The rule on set words
pub record Standing {P : Type 0} (may : List Mark → Mark → Type 0) (count : ℕ) (page : P) (words : List ℕ) (views : List (View P)) : Type 0 where
  -- word 0 is the number word, and the word of a place is one further on
  pub wide : length words ≡ count + 1
  -- the set words
  pub all : List Mark
  pub lawful : Lawful may all
  pub there : (m : Mark) → Has all m → (0 < m.word) × (slice_index words (m.place + 1) ≡ m.word)
  pub marked : (place : ℕ) → 0 < slice_index words (place + 1) → (by : ℕ) × Has all (mark place (slice_index words (place + 1)) by)
  -- each word that a view has seen is set
  pub seen : (j : ℕ) (v : View P) → get_elem? views j ≡ some v → ((q : P) → v.page ≡ Some q → q ≡ page) × Within v.seen all
  -- each set word is kept by one view, once, under a number that it has, and was seen by it
  pub once : (f : Mark → ℕ) → total (λ (v : View P). total f v.kept) views ≡ total f all
  pub own : (j : ℕ) (v : View P) → get_elem? views j ≡ some v → (m : Mark) → Has v.kept m → Has (numbers v.names) m.by
  pub saw : (j : ℕ) (v : View P) → get_elem? views j ≡ some v → Within v.kept v.seen

pub record Ruled {P : Type 0} (may : List Mark → Mark → Type 0) (count : ℕ) (page : P) (s : State ℕ (View P)) : Type 0 where
  pub standing : Standing may count page s.words s.views
  pub numbered : Numbered (slice_index s.words 0) s.views

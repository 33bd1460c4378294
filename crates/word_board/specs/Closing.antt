-- What a board was as it closed.
use Rattle.std.specs.Prelude.{◌≡◌, ℕ, ◌+◌, ◌<◌, List, length, slice_index}
use Rattle.word_board.specs.Weights.{total, below}
use Rattle.word_board.specs.Marks.{mark, Has, Within, Lawful}
use Rattle.word_board.specs.Numbers.{numbers, drawing}
use Rattle.word_board.specs.Views.{IsWhole}
use Rattle.word_board.specs.declared.view.Mark.{Mark}
use Rattle.word_board.specs.declared.view.View.{View}

-- the words of the table but the first
abbrev pub RowOf : List ℕ → ℕ → List ℕ → Type 0
RowOf words count row = (length row ≡ count) × ((k : ℕ) → k < count → slice_index row k ≡ slice_index words (k + 1))

-- these set words are the words of the places that aren't 0
abbrev pub Fills : List Mark → List ℕ → Type 0
Fills all row =
    ((m : Mark) → Has all m → (m.place < length row) × (0 < m.word) × (slice_index row m.place ≡ m.word))
    × ((place : ℕ) → 0 < slice_index row place → (by : ℕ) × Has all (mark place (slice_index row place) by))

-- The pass keeps each set word once, under the number of the pass that set it, which is one that it has, and its drawn numbers are 1 to their count
abbrev pub KeepsAll : {P : Type 0} → View P → List Mark → Type 0
KeepsAll v all =
    ((f : Mark → ℕ) → total f v.kept ≡ total f all)
    × ((m : Mark) → Has v.kept m → Has (numbers v.names) m.by)
    × ((f : ℕ → ℕ) → f 0 + drawing f v ≡ below f (length v.drawn + 1))

-- The words of the places are lawful, and have all that the pass has seen. Where every other pass was taken in, it keeps them all
abbrev pub Closes : {P : Type 0} → (List Mark → Mark → Type 0) → ℕ → View P → List ℕ → Type 0
Closes may count v row = (length row ≡ count) × ((all : List Mark) × Lawful may all × Within v.seen all × Fills all row × (IsWhole v → KeepsAll v all))

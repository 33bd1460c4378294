-- Set words, and lists of them, which are read as sets.
use Rattle.std.specs.Prelude.{◌≡◌, ℕ, ◌⊎◌, List, [], ◌∷◌}
use Rattle.word_board.specs.declared.view.Mark.{Mark}

abbrev pub mark : ℕ → ℕ → ℕ → Mark
mark place word by = record { place = place; word = word; by = by }

-- x is one of them
abbrev pub Has : {A : Type 0} → List A → A → Type 0
Has [] x = ⊥
Has (y ∷ ys) x = (y ≡ x) ⊎ Has ys x

abbrev pub Within : List Mark → List Mark → Type 0
Within xs ys = (m : Mark) → Has xs m → Has ys m

-- no word is set at the place
abbrev pub Unset : List Mark → ℕ → Type 0
Unset xs place = (m : Mark) → Has xs m → ¬ (m.place ≡ place)

-- no place is set twice
abbrev pub Once : List Mark → Type 0
Once xs = (m n : Mark) → Has xs m → Has xs n → m.place ≡ n.place → m ≡ n

-- a lawful board: each of these set words may stand by them all, and no place is set twice
abbrev pub Lawful : (List Mark → Mark → Type 0) → List Mark → Type 0
Lawful may all = ((m : Mark) → Has all m → may all m) × Once all

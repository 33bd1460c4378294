-- What a pass knows, and what the steps make of it.
use Rattle.std.specs.Prelude.{◌≡◌, ℕ, ◌+◌, ◌<◌, ◌≤◌, ◌⊎◌, List, [], ◌∷◌, ◌++◌, length, slice_index_or, true, Option, None, Some}
use Rattle.word_board.specs.Weights.{below}
use Rattle.word_board.specs.Marks.{mark, Has, Within, Unset, Lawful}
use Rattle.word_board.specs.Numbers.{name, draw, numbers, drawing, IsUnhanded}
use Rattle.word_board.specs.declared.view.Mark.{Mark}
use Rattle.word_board.specs.declared.view.Name.{Name}
use Rattle.word_board.specs.declared.view.Fate.{Fate}
use Rattle.word_board.specs.declared.view.Fate.TheVariants.{Pending, Handed, Lost}
use Rattle.word_board.specs.declared.view.Draw.{Draw}
use Rattle.word_board.specs.declared.view.View.{View}

abbrev pub view : {P : Type 0} → Option P → List Mark → List Mark → List Name → List Draw → ℕ → View P
view page seen kept names drawn least = record { page = page; seen = seen; kept = kept; names = names; drawn = drawn; least = least }

-- the pass with number 0, which has seen nothing
abbrev pub newcomer : {P : Type 0} → P → View P
newcomer page = view (Some page) [] [] (name 0 ∷ []) [] 0

-- a pass that was taken in
abbrev pub spent : {P : Type 0} → View P
spent = view None [] [] [] [] 0

abbrev pub number_of : {P : Type 0} → View P → ℕ
number_of v = (slice_index_or v.names 0 (name 0)).number

-- a word more is seen
abbrev pub seeing : {P : Type 0} → View P → Mark → View P
seeing v m = view v.page (v.seen ++ m ∷ []) v.kept v.names v.drawn v.least

-- a word more is seen, which this pass set
abbrev pub setting : {P : Type 0} → View P → Mark → View P
setting v m = view v.page (v.seen ++ m ∷ []) (v.kept ++ m ∷ []) v.names v.drawn v.least

-- the number word was found
abbrev pub finding : {P : Type 0} → View P → ℕ → View P
finding v n = view v.page v.seen v.kept v.names v.drawn n

-- the number n was drawn, and is pending
abbrev pub drawing_one : {P : Type 0} → View P → ℕ → View P
drawing_one v n = view v.page v.seen v.kept v.names (draw n (number_of v) ∷ v.drawn) n

abbrev pub marked_over : List Name → List Name
marked_over [] = []
marked_over (n ∷ ns) = record n { over = true } ∷ ns

-- its own number overshot
abbrev pub overshooting : {P : Type 0} → View P → ℕ → View P
overshooting v n = view v.page v.seen v.kept (marked_over v.names) v.drawn n

-- what became of the number that was drawn last
abbrev pub decided : Fate → List Draw → List Draw
decided fate [] = []
decided fate (d ∷ ds) = record d { fate = fate } ∷ ds

abbrev pub last_drawn : List Draw → ℕ
last_drawn [] = 0
last_drawn (d ∷ ds) = d.number

-- the number that was drawn last is still with this pass
abbrev pub IsPending : List Draw → Type 0
IsPending [] = ⊥
IsPending (d ∷ ds) = d.fate ≡ Pending

-- the number that was drawn last goes to another pass
abbrev pub handing : {P : Type 0} → View P → View P
handing v = view v.page v.seen v.kept v.names (decided Handed v.drawn) v.least

-- the number that was drawn last is given up
abbrev pub losing : {P : Type 0} → View P → View P
losing v = view v.page v.seen v.kept v.names (decided Lost v.drawn) v.least

-- the new pass, which has the number and has seen as much
abbrev pub forked : {P : Type 0} → View P → View P
forked v = view v.page v.seen [] (name (last_drawn v.drawn) ∷ []) [] v.least

-- all that both have
abbrev pub joined : {P : Type 0} → View P → View P → View P
joined v w = view v.page (v.seen ++ w.seen) (v.kept ++ w.kept) (v.names ++ w.names) (v.drawn ++ w.drawn) v.least

-- every other pass was taken in: it has the number 0, and each number that it keeps as drawn it has, or no pass got it
abbrev pub IsWhole : {P : Type 0} → View P → Type 0
IsWhole v = Has (numbers v.names) 0 × ((d : Draw) → Has v.drawn d → Has (numbers v.names) d.number ⊎ IsUnhanded d.fate)

-- no number was drawn, and the number word is at least 4095
abbrev pub Stalls : {P : Type 0} → View P → View P → Type 0
Stalls v w = (4095 ≤ w.least) × ((w ≡ finding v w.least) ⊎ (w ≡ overshooting v w.least))

-- more may be seen and kept, and no number changed
abbrev pub Grown : {P : Type 0} → View P → View P → Type 0
Grown v w = Within v.seen w.seen × (w.page ≡ v.page) × (w.names ≡ v.names) × (w.drawn ≡ v.drawn) × (w.least ≡ v.least)

-- the word was seen at this place
abbrev pub SeenAt : {P : Type 0} → View P → ℕ → ℕ → Type 0
SeenAt v place word = (by : ℕ) × Has v.seen (mark place word by)

-- this word was set here, or nothing was
abbrev pub KeepsOne : {P : Type 0} → View P → View P → ℕ → ℕ → Type 0
KeepsOne v w place word = (w.kept ≡ v.kept) ⊎ (w.kept ≡ v.kept ++ mark place word (number_of v) ∷ [])

-- the word at a place is that of each mark of it
abbrev pub Agrees : List Mark → ℕ → ℕ → Type 0
Agrees seen place word = (m : Mark) → Has seen m → m.place ≡ place → word ≡ m.word

module _ {P : Type 0} (may : P → List Mark → Mark → Type 0) where
  -- these set words are a lawful board, which has all that was seen
  abbrev pub Reaches : View P → List Mark → Type 0
  Reaches v all = ((page : P) → v.page ≡ Some page → Lawful (may page) all) × Within v.seen all

  -- some lawful board has all that was seen, and this place is not set in it
  abbrev pub Vacant : View P → ℕ → Type 0
  Vacant v place = (all : List Mark) × Reaches v all × Unset all place

  -- what holds of a pass at any time
  pub record Known (v : View P) : Type 0 where
    pub sound : (all : List Mark) × Reaches v all
    -- what it keeps it has seen, under a number that it has
    pub kept_seen : Within v.kept v.seen
    pub kept_own : (m : Mark) → Has v.kept m → Has (numbers v.names) m.by
    -- what it has seen, and was set under a number that it has, it keeps
    pub own_kept : (m : Mark) → Has v.seen m → Has (numbers v.names) m.by → Has v.kept m
    -- each number that it keeps as drawn was drawn by a pass with a lower number that it has
    pub drawn_own : (d : Draw) → Has v.drawn d → (d.by < d.number) × Has (numbers v.names) d.by
    -- a number is kept as drawn once
    pub drawn_once : (d e : Draw) → Has v.drawn d → Has v.drawn e → d.number ≡ e.number → d ≡ e
    -- where every other pass was taken in, the numbers that it keeps as drawn are 1 to their count
    pub drawn_first : IsWhole v → (f : ℕ → ℕ) → f 0 + drawing f v ≡ below f (length v.drawn + 1)

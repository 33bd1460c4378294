-- What each step on a board's table tells the pass that makes it: the step, the seat before, the word found, the seat after.
use Rattle.std.specs.Prelude.{◌≡◌, ◌≢◌, ℕ, ◌+◌, ◌-◌, ◌<◌, ◌≤◌, List}
use Rattle.atomic_table.specs.Table.{Me, Step}
use Rattle.word_board.specs.Marks.{mark, Has}
use Rattle.word_board.specs.Numbers.{overs}
use Rattle.word_board.specs.Views.{number_of, seeing, setting, finding, drawing_one, overshooting, losing, Agrees, Vacant, Known}
use Rattle.word_board.specs.declared.view.Mark.{Mark}
use Rattle.word_board.specs.declared.view.Draw.{Draw}
use Rattle.word_board.specs.declared.view.View.{View}

abbrev pub Sat : Type 0 → Type 0
Sat P = Me ℕ (View P)

-- a place was loaded
abbrev pub looked : {P : Type 0} → (P → List Mark → Mark → Type 0) → Step ℕ → Sat P → ℕ → Sat P → Type 0
looked may st m r n =
    (n.1 ≡ m.1)
    × Agrees m.0.seen (st.word - 1) r
    × (r ≢ 0 → (by : ℕ) × (n.0 ≡ seeing m.0 (mark (st.word - 1) r by)))
    × (r ≡ 0 → (n.0 ≡ m.0) × Vacant may m.0 (st.word - 1))

-- a place was exchanged from 0
abbrev pub wrote : {P : Type 0} → Step ℕ → Sat P → ℕ → Sat P → Type 0
wrote st m r n =
    (n.1 ≡ m.1)
    × Agrees m.0.seen (st.word - 1) r
    × (r ≡ 0 → n.0 ≡ setting m.0 (mark (st.word - 1) st.second (number_of m.0)))
    × (r ≢ 0 → (by : ℕ) × (n.0 ≡ seeing m.0 (mark (st.word - 1) r by)))

-- the number word was loaded: a pass whose number overshot finds at least 4096
abbrev pub counted : {P : Type 0} → Step ℕ → Sat P → ℕ → Sat P → Type 0
counted st m r n = (n.1 ≡ m.1) × (n.0 ≡ finding m.0 r) × (m.0.least ≤ r) × (r < 4095 → overs m.0 ≡ 0)

-- the number word was raised: a number was drawn, or the own number overshot
abbrev pub drew : {P : Type 0} → Step ℕ → Sat P → ℕ → Sat P → Type 0
drew st m r n =
    (n.1 ≡ m.1)
    × (m.0.least ≤ r)
    × (r < 4095 → (n.0 ≡ drawing_one m.0 (r + 1)) × ((d : Draw) → Has m.0.drawn d → d.number < r + 1))
    × (4095 ≤ r → n.0 ≡ overshooting m.0 (r + 1))

-- the number that was drawn last was given up
abbrev pub lost : {P : Type 0} → Step ℕ → Sat P → ℕ → Sat P → Type 0
lost st m r n = (n.1 ≡ m.1) × (n.0 ≡ losing m.0)

abbrev pub recalled : {P : Type 0} → (P → List Mark → Mark → Type 0) → Step ℕ → Sat P → ℕ → Sat P → Type 0
recalled may st m r n = (n ≡ m) × Known may m.0

-- the same with what the rule says of the pass after the step
abbrev pub looked_known : {P : Type 0} → (P → List Mark → Mark → Type 0) → Step ℕ → Sat P → ℕ → Sat P → Type 0
looked_known may st m r n = looked may st m r n × Known may n.0

abbrev pub wrote_known : {P : Type 0} → (P → List Mark → Mark → Type 0) → Step ℕ → Sat P → ℕ → Sat P → Type 0
wrote_known may st m r n = wrote st m r n × Known may n.0

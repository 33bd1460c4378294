-- The page of slots asks for no more than the rules of nodes and of slots.
use Rattle.std.proofs.Common.{◌<◌, ◌≤◌, List, arith}
use Rattle.word_board.specs.Places.{IsInRows}
use Rattle.word_board.specs.declared.view.Mark.{Mark}
use Rattle.node_set.specs.Probing.{NodeRule}
use Rattle.dict_slots.specs.Slots.{SlotRule}

abbrev pub may : List Mark → Mark → Type 0
may xs m = (m.place < 128 → NodeRule 128 xs m) × (IsInRows 128 m.place → SlotRule 128 xs m)

pub lets_node : (xs : List Mark) (m : Mark) → m.place < 128 → NodeRule 128 xs m → may xs m
lets_node xs m low rule = ((λ l. rule), (λ inside. let above : 128 ≤ m.place = inside.0 in absurd (omega arith)))

pub lets_word : (xs : List Mark) (m : Mark) → IsInRows 128 m.place → SlotRule 128 xs m → may xs m
lets_word xs m inside rule = ((λ low. let above : 128 ≤ m.place = inside.0 in absurd (omega arith)), (λ i. rule))

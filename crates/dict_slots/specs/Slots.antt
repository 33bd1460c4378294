-- Layouts and dictionaries: which signature has a slot, which handle fills its word, and which word may stand in their rows.
use Rattle.std.specs.Prelude.{◌≡◌, ◌≢◌, ℕ, ◌+◌, ◌*◌, ◌/◌, ◌%◌, ◌<◌, List}
use Rattle.clr_base.specs.declared.ids.Handle.{Handle}
use Rattle.clr_base.specs.declared.ids.SigId.{SigId}
use Rattle.word_board.specs.Marks.{mark, Has, Within}
use Rattle.word_board.specs.Places.{row_place}
use Rattle.word_board.specs.declared.view.Mark.{Mark}
use Rattle.node_set.specs.Keys.{Stands, stands_on}
use Rattle.node_set.specs.declared.node.Node.{Node}
use Rattle.node_set.specs.declared.node.Node.TheVariants.{Head, Argument, Array, Method, Row, LayoutSegment, DictionarySegment}

-- the word is set at the place
abbrev pub IsSet : List Mark → ℕ → ℕ → Type 0
IsSet all place word = (by : ℕ) × Has all (mark place word by)

module _ (cells : ℕ) (all : List Mark) where
  -- the signature has the slot in the layout of the canonical key: its number plus 1 is set in the row of the slot's segment
  abbrev pub HasSlot : Handle → ℕ → SigId → Type 0
  HasSlot canonical slot sig = (cell : ℕ) × Stands cells all cell (LayoutSegment canonical (slot / 32)) × IsSet all (row_place cells cell (slot % 32)) (sig.0 + 1)

  -- other signatures have the slots before this one
  abbrev pub OthersBefore : Handle → SigId → ℕ → Type 0
  OthersBefore canonical sig slot = (i : ℕ) → i < slot → (other : SigId) × HasSlot canonical i other × (other.0 ≢ sig.0)

  -- the handle fills the slot in the dictionary of the exact key: its number plus 1 is set in the row of the slot's segment
  abbrev pub IsFilled : Handle → ℕ → Handle → Type 0
  IsFilled exact slot handle = (cell : ℕ) × Stands cells all cell (DictionarySegment exact (slot / 32)) × IsSet all (row_place cells cell (slot % 32)) (handle.0 + 1)

  -- what may stand as word w of the row of a cell with this node
  abbrev pub RowMay : Node → ℕ → ℕ → Type 0
  RowMay (Head d) w word = Unit {0}
  RowMay (Argument a b) w word = Unit {0}
  RowMay (Array a) w word = Unit {0}
  RowMay (Method m o) w word = Unit {0}
  RowMay (Row a row) w word = Unit {0}
  RowMay (LayoutSegment canonical segment) w word = (sig : SigId) × (word ≡ sig.0 + 1) × OthersBefore canonical sig (32 * segment + w)
  RowMay (DictionarySegment exact segment) w word = (handle : Handle) × (handle.0 < cells) × (word ≡ handle.0 + 1)

  -- the rule of slots, for a word in a row: it stands in the row of a cell that is set, and is one that may stand there
  abbrev pub SlotRule : Mark → Type 0
  SlotRule m = (cell w : ℕ) × (n : Node) × (w < 32) × (m.place ≡ row_place cells cell w) × Stands cells all cell n × RowMay n w m.word

-- these still hold when more words are set

abbrev pub is_set_on : (xs ys : List Mark) → Within xs ys → (place word : ℕ) → IsSet xs place word → IsSet ys place word
is_set_on xs ys on place word s = (s.0, on (mark place word s.0) s.1)

module _ (cells : ℕ) (xs ys : List Mark) (on : Within xs ys) where
  abbrev pub has_slot_on : (canonical : Handle) (slot : ℕ) (sig : SigId) → HasSlot cells xs canonical slot sig → HasSlot cells ys canonical slot sig
  has_slot_on canonical slot sig s = (s.0, stands_on cells xs ys on s.0 (LayoutSegment canonical (slot / 32)) s.1, is_set_on xs ys on (row_place cells s.0 (slot % 32)) (sig.0 + 1) s.2)

  abbrev pub others_on : (canonical : Handle) (sig : SigId) (slot : ℕ) → OthersBefore cells xs canonical sig slot → OthersBefore cells ys canonical sig slot
  others_on canonical sig slot before i low = let b = before i low in (b.0, has_slot_on canonical i b.0 b.1, b.2)

  abbrev pub is_filled_on : (exact : Handle) (slot : ℕ) (handle : Handle) → IsFilled cells xs exact slot handle → IsFilled cells ys exact slot handle
  is_filled_on exact slot handle s = (s.0, stands_on cells xs ys on s.0 (DictionarySegment exact (slot / 32)) s.1, is_set_on xs ys on (row_place cells s.0 (slot % 32)) (handle.0 + 1) s.2)

  abbrev pub row_may_on : (n : Node) (w word : ℕ) → RowMay cells xs n w word → RowMay cells ys n w word
  row_may_on (Head d) w word r = r
  row_may_on (Argument a b) w word r = r
  row_may_on (Array a) w word r = r
  row_may_on (Method m o) w word r = r
  row_may_on (Row a row) w word r = r
  row_may_on (LayoutSegment canonical segment) w word r = (r.0, r.1, others_on canonical r.0 (32 * segment + w) r.2)
  row_may_on (DictionarySegment exact segment) w word r = r

  abbrev pub slot_rule_on : (m : Mark) → SlotRule cells xs m → SlotRule cells ys m
  slot_rule_on m r = (r.0, r.1, r.2, r.3, r.4, stands_on cells xs ys on r.0 r.2 r.5, row_may_on r.2 r.1 m.word r.6)

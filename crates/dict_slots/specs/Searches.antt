-- What the searches of a layout have as conditions, and what they answer.
use Rattle.std.specs.Prelude.{◌≡◌, ◌≢◌, ℕ, ◌+◌, ◌*◌, ◌/◌, ◌%◌, ◌<◌, ◌⊎◌, List, [], ◌∷◌, ◌++◌}
use Rattle.clr_base.specs.declared.ids.Handle.{Handle}
use Rattle.clr_base.specs.declared.ids.SigId.{SigId}
use Rattle.word_board.specs.Marks.{mark, Has, Within, Unset, Lawful}
use Rattle.word_board.specs.Places.{row_place}
use Rattle.word_board.specs.Views.{number_of, Vacant}
use Rattle.word_board.specs.declared.view.Mark.{Mark}
use Rattle.word_board.specs.declared.view.View.{View}
use Rattle.node_set.specs.Nodes.{word_of, IsNode}
use Rattle.node_set.specs.Keys.{Stands}
use Rattle.node_set.specs.Probing.{MayBut}
use Rattle.node_set.specs.declared.node.Node.{Node}
use Rattle.node_set.specs.declared.node.Node.TheVariants.{LayoutSegment}
use Rattle.dict_slots.specs.declared.seeking.RowEnd.{RowEnd}
use Rattle.dict_slots.specs.declared.seeking.RowEnd.TheVariants.{Found, Free, Others}
use Rattle.dict_slots.specs.Slots.{IsSet, HasSlot, OthersBefore}

-- the words of a row before this one are set to others than the signature's
abbrev pub RowOthers : ℕ → List Mark → ℕ → SigId → ℕ → Type 0
RowOthers cells all cell sig w = (i : ℕ) → i < w → (word : ℕ) × (0 < word) × IsSet all (row_place cells cell i) word × (word ≢ sig.0 + 1)

-- the slot of a layout is not set: no cell of its segment has its word
abbrev pub IsFree : ℕ → List Mark → Handle → ℕ → Type 0
IsFree cells all canonical slot = (cell : ℕ) → Stands cells all cell (LayoutSegment canonical (slot / 32)) → Unset all (row_place cells cell (slot % 32))

-- the signature has no slot in the layout
abbrev pub HasNoSlot : ℕ → List Mark → Handle → SigId → Type 0
HasNoSlot cells all canonical sig = (slot : ℕ) → ¬ HasSlot cells all canonical slot sig

-- a slot, below 2048 and behind slots that were seen to be others', is free in these words
abbrev pub EndsAt : ℕ → List Mark → List Mark → Handle → SigId → Type 0
EndsAt cells seen all canonical sig = (slot : ℕ) × (slot < 2048) × OthersBefore cells seen canonical sig slot × IsFree cells all canonical slot

-- some lawful board that has all that was seen has no slot of the signature, for it has a free one behind those of others; or others were seen to have 2048 slots
abbrev pub NoSlotFound : (List Mark → Mark → Type 0) → ℕ → List Mark → Handle → SigId → Type 0
NoSlotFound may cells seen canonical sig =
    ((all : List Mark) × Lawful may all × Within seen all × HasNoSlot cells all canonical sig × EndsAt cells seen all canonical sig)
    ⊎ OthersBefore cells seen canonical sig 2048

-- a node may stand by these words, the cells before it in its probing order aside
abbrev pub NodeMayBut : (List Mark → Mark → Type 0) → ℕ → List Mark → Node → ℕ → Type 0
NodeMayBut may cells seen n by = IsNode n × MayBut may cells seen (word_of n) by

-- the segments of the layout may stand, each where others have the slots before it, the cells before its node aside
abbrev pub SegmentsMay : (List Mark → Mark → Type 0) → ℕ → List Mark → Handle → SigId → ℕ → Type 0
SegmentsMay may cells seen canonical sig by =
    (more : List Mark) (segment : ℕ) → Within seen more → segment < 64 → OthersBefore cells more canonical sig (32 * segment) → NodeMayBut may cells more (LayoutSegment canonical segment) by

-- the signature's word may stand in a slot of the layout, wherever its segment stands and others have the slots before it
abbrev pub SlotMay : (List Mark → Mark → Type 0) → ℕ → List Mark → Handle → SigId → ℕ → Type 0
SlotMay may cells seen canonical sig by =
    (more : List Mark) (cell slot : ℕ) → Within seen more → slot < 2048 → Stands cells more cell (LayoutSegment canonical (slot / 32)) → OthersBefore cells more canonical sig slot
    → may more (mark (row_place cells cell (slot % 32)) (sig.0 + 1) by)

module _ {P : Type 0} (cells : ℕ) (v w : View P) where
  -- each of the marks is one of the first segments of the layout, which this pass set in a cell
  abbrev pub AreSegments : Handle → ℕ → List Mark → Type 0
  AreSegments canonical count ms = (m : Mark) → Has ms m → (cell segment : ℕ) × (cell < cells) × (segment < count) × (m ≡ mark cell (word_of (LayoutSegment canonical segment)) (number_of v))

  -- only some of the first segments of the layout were set
  abbrev pub KeepsSegments : Handle → ℕ → Type 0
  KeepsSegments canonical count = (ms : List Mark) × AreSegments canonical count ms × (w.kept ≡ v.kept ++ ms)

  -- only some of the segments up to that of the slot were set, and after them perhaps the slot
  abbrev pub KeepsSlot : Handle → SigId → ℕ → Type 0
  KeepsSlot canonical sig slot =
      (ms : List Mark) × AreSegments canonical (slot / 32 + 1) ms
      × ((w.kept ≡ v.kept ++ ms)
      ⊎ ((cell : ℕ) × Stands cells w.seen cell (LayoutSegment canonical (slot / 32)) × (w.kept ≡ (v.kept ++ ms) ++ mark (row_place cells cell (slot % 32)) (sig.0 + 1) (number_of v) ∷ [])))

module _ {P : Type 0} (may : P → List Mark → Mark → Type 0) (cells : ℕ) (v : View P) where
  -- how the search of a cell's row for a signature's word ended: at that word, at one that is not set, or behind words of others
  abbrev pub Ends : ℕ → SigId → RowEnd → Type 0
  Ends cell sig (Found w) = (w < 32) × RowOthers cells v.seen cell sig w × IsSet v.seen (row_place cells cell w) (sig.0 + 1)
  Ends cell sig (Free w) = (w < 32) × RowOthers cells v.seen cell sig w × Vacant may v (row_place cells cell w)
  Ends cell sig Others = RowOthers cells v.seen cell sig 32

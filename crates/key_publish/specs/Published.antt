-- What publishing a closure leaves: what the pass has seen then.
use Rattle.std.specs.Prelude.{◌≡◌, ℕ, ◌+◌, ◌*◌, ◌<◌, ◌⊎◌, List, length, Contains, slice_get, Some}
use Rattle.clr_base.specs.declared.ids.Handle.{Handle}
use Rattle.word_board.specs.declared.view.Mark.{Mark}
use Rattle.node_set.specs.Nodes.{word_of as node_word}
use Rattle.node_set.specs.Keys.{Key, Spells, Makes}
use Rattle.node_set.specs.Probing.{Before}
use Rattle.node_set.specs.declared.node.Node.{Node}
use Rattle.node_set.specs.declared.node.Node.TheVariants.{Row}
use Rattle.type_record.specs.declared.entry.Entry.{Entry}
use Rattle.type_record.specs.Words.{row_word, word_of, FitsWord}
use Rattle.key_rows.specs.Facts.{Facts, Tells, HasRow, IsOtherWord}
use Rattle.key_rows.specs.Rows.{WordSet, EntrySet, SetWhere, Promise}
use Rattle.key_publish.specs.Plans.{Denotes, Spelled, MemberFits, IsInHandles}
use Rattle.key_publish.specs.declared.plan.Part.{Part}
use Rattle.key_publish.specs.declared.plan.Member.{Member}

module _ (cells : ℕ) (seen : List Mark) where
  -- the word w of the member's record is set as planned
  abbrev pub HasWord : List Handle → Member → ℕ → Type 0
  HasWord handles m w = (planned : Entry ℕ) × (h : Handle) × (told : Entry Handle) × (slice_get m.record w ≡ Some planned) × (slice_get handles m.part ≡ Some h)
      × IsInHandles handles planned told × FitsWord told × WordSet cells seen h.0 w (word_of told)

  -- the level word of each of the first n members is set
  abbrev pub Raised : List Handle → List Member → ℕ → ℕ → Type 0
  Raised handles members n level = (j : ℕ) (m : Member) (h : Handle) → j < n → slice_get members j ≡ Some m → slice_get handles m.part ≡ Some h → WordSet cells seen h.0 (3 + level) (row_word level 0)

  module _ (facts : Facts) where
    module _ (Means : ℕ → Key → Type 0) where
      -- the first n words of the member's record are set, its level words aside, whichever key it fits
      abbrev pub HasRecordTo : ℕ → List Handle → Member → Type 0
      HasRecordTo n handles m = (h : Handle) (k : Key) (w : ℕ) (e : Entry Key) → slice_get handles m.part ≡ Some h → MemberFits Means facts m k
          → w < n → IsOtherWord w → Tells facts k w e → EntrySet cells seen h.0 w e

      abbrev pub HasRecord : List Handle → Member → Type 0
      HasRecord handles m = HasRecordTo (length m.record) handles m

    -- the level may be raised by what was seen
    abbrev pub CanRaise : (Key → Type 0) → List Handle → ℕ → Member → Type 0
    CanRaise granted handles level m = (h : Handle) × (k : Key) × (slice_get handles m.part ≡ Some h) × Spells cells seen h.0 k × granted k × Promise cells seen facts level h.0 k

    -- the handle spells the key, whose record is set, and the words of its levels 1 to 3
    abbrev pub Whole : ℕ → Key → Type 0
    Whole h k = Spells cells seen h k × SetWhere cells seen facts IsOtherWord h k × WordSet cells seen h 4 (row_word 1 0) × WordSet cells seen h 5 (row_word 2 0) × WordSet cells seen h 6 (row_word 3 0)

    -- it has level 4, and each key of its closure its whole record and level 3
    abbrev pub Published : ℕ → Key → Type 0
    Published h root = Spells cells seen h root × WordSet cells seen h 7 (row_word 4 0) × ((k : Key) → Contains (facts.closure root) k → (g : ℕ) × Whole g k)

  -- each cell was seen set to another node
  abbrev pub InEachCellOther : Node → Type 0
  InEachCellOther n = Before cells seen (node_word n) cells

  -- the table has no cell for the node of a part
  abbrev pub IsPartLeft : List Part → Type 0
  IsPartLeft parts = (n : Node) × (i : ℕ) × (k : Key) × Denotes parts i k × Makes cells seen n k × InEachCellOther n

  -- it has none for the node of a further row of the member's record
  abbrev pub IsRowLeft : List Handle → Member → Type 0
  IsRowLeft handles m = (h : Handle) × (row : ℕ) × (slice_get handles m.part ≡ Some h) × (0 < row) × (32 * row < length m.record) × InEachCellOther (Row h row)

  -- it has none for a part of the plan, or for a further row of the record of a key of the closure
  abbrev pub IsLeft : Facts → List Part → Key → Type 0
  IsLeft facts parts root = IsPartLeft parts
      ⊎ ((h : Handle) × (k : Key) × (row : ℕ) × Contains (facts.closure root) k × Spells cells seen h.0 k × (0 < row) × HasRow facts k row × InEachCellOther (Row h row))

-- the nodes and the records of a plan are set
pub record Laid (cells : ℕ) (seen : List Mark) (facts : Facts) (parts : List Part) (handles : List Handle) (members : List Member) : Type 0 where
  pub long : length handles ≡ length parts
  pub spelled : Spelled cells seen parts handles
  pub records : (j : ℕ) (m : Member) → slice_get members j ≡ Some m → HasRecord cells seen facts (Denotes parts) handles m

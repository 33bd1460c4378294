-- The words of records in rows, and when they may stand.
use Rattle.std.specs.Prelude.{◌≡◌, ℕ, ◌+◌, ◌-◌, ◌/◌, ◌%◌, ◌<◌, ◌≤◌, List, Contains, Option, None, Some}
use Rattle.clr_base.specs.declared.ids.Handle.{Handle}
use Rattle.word_board.specs.Marks.{mark, Has, Within}
use Rattle.word_board.specs.Places.{row_place}
use Rattle.word_board.specs.declared.view.Mark.{Mark}
use Rattle.node_set.specs.Nodes.{tag_of}
use Rattle.node_set.specs.Keys.{Key, Stands, Spells, stands_on, spells_on}
use Rattle.node_set.specs.declared.node.Node.{Node}
use Rattle.node_set.specs.declared.node.Node.TheVariants.{Row}
use Rattle.type_record.specs.declared.entry.Entry.{Entry}
use Rattle.type_record.specs.Words.{row_word, word_of, FitsWord}
use Rattle.key_rows.specs.Facts.{Facts, Tells, IsApproximate, IsExact, IsLevelWord, IsOtherWord}

module _ (cells : ℕ) (all : List Mark) where
  -- this row of the record of the key at h is the row of the cell c: the first is the key's own, each further one that of its node
  abbrev pub IsRowOf : ℕ → ℕ → ℕ → Type 0
  IsRowOf h row c = (c < cells) × (row ≡ 0 → c ≡ h) × (0 < row → Stands cells all c (Row (record { 0 = h }) row))

  -- the cell has the node of a key, or of a further row of a key's record
  abbrev pub HoldsRecord : ℕ → Type 0
  HoldsRecord c = (n : Node) × Stands cells all c n × (tag_of n ≤ 5)

  -- the word w of the record of the key at h is set to this
  abbrev pub WordSet : ℕ → ℕ → ℕ → Type 0
  WordSet h w word = (c : ℕ) × IsRowOf h (w / 32) c × ((by : ℕ) × Has all (mark (row_place cells c (w % 32)) word by))

  -- the handle spells the key, if there is one
  abbrev pub SpellsOptional : Option Handle → Option Key → Type 0
  SpellsOptional None None = Unit {0}
  SpellsOptional None (Some k) = ⊥
  SpellsOptional (Some h) None = ⊥
  SpellsOptional (Some h) (Some k) = Spells cells all h.0 k

  -- the same number, and a handle that spells the key
  abbrev pub SpellsEntry : Entry Handle → Entry Key → Type 0
  SpellsEntry told e = (told.number ≡ e.number) × SpellsOptional told.key e.key

  -- the word of an entry, with the handle of its key
  abbrev pub IsWordOf : Entry Key → ℕ → Type 0
  IsWordOf e word = (told : Entry Handle) × FitsWord told × SpellsEntry told e × (word ≡ word_of told)

  abbrev pub EntrySet : ℕ → ℕ → Entry Key → Type 0
  EntrySet h w e = (word : ℕ) × IsWordOf e word × WordSet h w word

  -- the level's word of the key is set
  abbrev pub LevelSet : ℕ → Key → Type 0
  LevelSet level k = (h : ℕ) × Spells cells all h k × WordSet h (3 + level) (row_word level 0)

  module _ (facts : Facts) where
    -- those words of k's record that are asked for are set
    abbrev pub SetWhere : (ℕ → Type 0) → ℕ → Key → Type 0
    SetWhere asked h k = (w : ℕ) (e : Entry Key) → asked w → Tells facts k w e → EntrySet h w e

    -- what a level promises of a key
    abbrev pub Promise : ℕ → ℕ → Key → Type 0
    Promise level h k =
        (level ≡ 1 → SetWhere (IsApproximate facts k) h k)
        × (level ≡ 2 → SetWhere (IsExact facts k) h k)
        × (level ≡ 3 → SetWhere IsOtherWord h k × ((d : Key) → Contains (facts.direct k) d → LevelSet 2 d))
        × (level ≡ 4 → ((m : Key) → Contains (facts.closure k) m → LevelSet 3 m))

    -- the word may stand as the word w of k's record: it is that of its entry, and a level keeps its promise
    abbrev pub WordMay : ℕ → Key → ℕ → ℕ → Type 0
    WordMay h k w word = (e : Entry Key) × Tells facts k w e × IsWordOf e word × (IsLevelWord w → Promise (w - 3) h k)

    -- the key is in the closure of a loaded one
    abbrev pub IsLoaded : Key → Type 0
    IsLoaded k = (root : Key) × Contains (facts.closure root) k × LevelSet 4 root

-- the rule of rows: the word is one of the record of a key that may have one
pub record RowRule (cells : ℕ) (all : List Mark) (facts : Facts) (granted : Key → Type 0) (m : Mark) : Type 0 where
  pub handle : ℕ
  pub key : Key
  pub word : ℕ
  pub cell : ℕ
  pub spells : Spells cells all handle key
  pub is_granted : granted key
  pub row : IsRowOf cells all handle (word / 32) cell
  pub at : m.place ≡ row_place cells cell (word % 32)
  pub may : WordMay cells all facts handle key word m.word

-- these still hold when more words are set

module _ (cells : ℕ) (xs ys : List Mark) (on : Within xs ys) where
  abbrev pub row_of_on : (h row c : ℕ) → IsRowOf cells xs h row c → IsRowOf cells ys h row c
  row_of_on h row c r = (r.0, r.1, λ some. stands_on cells xs ys on c (Row (record { 0 = h }) row) (r.2 some))

  abbrev pub word_set_on : (h w word : ℕ) → WordSet cells xs h w word → WordSet cells ys h w word
  word_set_on h w word s = (s.0, row_of_on h (w / 32) s.0 s.1, (s.2.0, on (mark (row_place cells s.0 (w % 32)) word s.2.0) s.2.1))

  abbrev pub spells_optional_on : (h : Option Handle) (k : Option Key) → SpellsOptional cells xs h k → SpellsOptional cells ys h k
  spells_optional_on None None s = s
  spells_optional_on None (Some k) s = s
  spells_optional_on (Some h) None s = s
  spells_optional_on (Some h) (Some k) s = spells_on cells xs ys on h.0 k s

  abbrev pub word_of_on : (e : Entry Key) (word : ℕ) → IsWordOf cells xs e word → IsWordOf cells ys e word
  word_of_on e word s = (s.0, s.1, (s.2.0, spells_optional_on s.0.key e.key s.2.1), s.3)

  abbrev pub entry_set_on : (h w : ℕ) (e : Entry Key) → EntrySet cells xs h w e → EntrySet cells ys h w e
  entry_set_on h w e s = (s.0, word_of_on e s.0 s.1, word_set_on h w s.0 s.2)

  abbrev pub level_set_on : (level : ℕ) (k : Key) → LevelSet cells xs level k → LevelSet cells ys level k
  level_set_on level k s = (s.0, spells_on cells xs ys on s.0 k s.1, word_set_on s.0 (3 + level) (row_word level 0) s.2)

  module _ (facts : Facts) where
    abbrev pub set_where_on : (asked : ℕ → Type 0) (h : ℕ) (k : Key) → SetWhere cells xs facts asked h k → SetWhere cells ys facts asked h k
    set_where_on asked h k s w e ask is = entry_set_on h w e (s w e ask is)

    abbrev pub promise_on : (level h : ℕ) (k : Key) → Promise cells xs facts level h k → Promise cells ys facts level h k
    promise_on level h k p = (
      (λ is. set_where_on (IsApproximate facts k) h k (p.0 is)),
      (λ is. set_where_on (IsExact facts k) h k (p.1 is)),
      (λ is. let r = p.2 is in (set_where_on IsOtherWord h k r.0, λ d c. level_set_on 2 d (r.1 d c))),
      (λ is m c. level_set_on 3 m (p.3 is m c)),
    )

    abbrev pub word_may_on : (h : ℕ) (k : Key) (w word : ℕ) → WordMay cells xs facts h k w word → WordMay cells ys facts h k w word
    word_may_on h k w word m = (m.0, m.1, word_of_on m.0 word m.2, λ is. promise_on (w - 3) h k (m.3 is))

    -- where a key that may have a record still may
    abbrev pub row_rule_on : (before after : Key → Type 0) → ((k : Key) → before k → after k) → (m : Mark) → RowRule cells xs facts before m → RowRule cells ys facts after m
    row_rule_on before after stays m r = record {
      handle = r.handle;
      key = r.key;
      word = r.word;
      cell = r.cell;
      spells = spells_on cells xs ys on r.handle r.key r.spells;
      is_granted = stays r.key r.is_granted;
      row = row_of_on r.handle (r.word / 32) r.cell r.row;
      at = r.at;
      may = word_may_on r.handle r.key r.word m.word r.may;
    }

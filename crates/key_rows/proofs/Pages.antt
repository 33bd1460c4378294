-- What the words that a pass has seen tell, on a page with the rules of nodes and of rows.
use Rattle.std.proofs.Common.{◌≡◌, ℕ, ◌/◌, ◌%◌, ◌<◌, List, Contains, Option, None, Some, sym, refl, ap, ◌∙◌, subst, arith, ⊎_elim}
use Rattle.clr_base.specs.declared.ids.Handle.{Handle}
use Rattle.word_board.specs.Marks.{mark, Has, Within, Once, Lawful}
use Rattle.word_board.specs.Places.{row_place}
use Rattle.word_board.specs.Views.{Known}
use Rattle.word_board.specs.declared.view.Mark.{Mark}
use Rattle.word_board.specs.declared.view.View.{View}
use Rattle.node_set.specs.Nodes.{word_of as node_word}
use Rattle.node_set.specs.Keys.{Key, Spells}
use Rattle.node_set.specs.Probing.{NodeRule, OneCell, Absent}
use Rattle.node_set.specs.declared.node.Node.TheVariants.{Row}
use Rattle.node_set.proofs.Probes.{one_cell}
use Rattle.node_set.proofs.Spelling.{one_key, one_handle, spells_inside}
use Rattle.type_record.specs.declared.entry.Entry.{Entry}
use Rattle.type_record.specs.Words.{row_word, word_of, FitsWord}
use Rattle.type_record.specs.TheOne.{IsTheOne}
use Rattle.key_rows.specs.Facts.{Facts, IsClosed, Tells, IsOtherWord}
use Rattle.key_rows.specs.Rows.{IsRowOf, HoldsRecord, WordSet, SpellsOptional, SpellsEntry, IsWordOf, LevelSet, SetWhere, WordMay, IsLoaded, RowRule, row_of_on}
use Rattle.key_rows.specs.Knowing.{Names, Knows, KnowsOptional, KnowsEntry}
use Rattle.type_record.specs.Records.{entry}
use Rattle.key_rows.proofs.Levels.{level_tells, level_row, level_word}
use Rattle.key_rows.proofs.Meaning.{word_means, one_row_cell, same_word, same_told}

-- the rules of a page's cells and rows
pub record HasRows (may : List Mark → Mark → Type 0) (cells : ℕ) (facts : Facts) (granted : List Mark → Key → Type 0) : Type 0 where
  pub nodes : (all : List Mark) (m : Mark) → may all m → m.place < cells → NodeRule cells all m
  pub rows : (all : List Mark) (m : Mark) (c w : ℕ) → Once all → may all m → w < 32 → m.place ≡ row_place cells c w → HoldsRecord cells all c → RowRule cells all facts (granted all) m

-- a lawful board that has all that was seen
pub reach : {P : Type 0} (may : P → List Mark → Mark → Type 0) (page : P) (v : View P) → v.page ≡ Some page → Known may v → (all : List Mark) × Lawful (may page) all × Within v.seen all
reach may page v paged known = (known.sound.0, known.sound.1.0 page paged, known.sound.1.1)

module _ {may : List Mark → Mark → Type 0} {cells : ℕ} {facts : Facts} {granted : List Mark → Key → Type 0} (page : HasRows may cells facts granted) where
  pub cell_one : (all : List Mark) → Lawful may all → OneCell cells all
  cell_one all lawful = one_cell may cells (λ l m is low. (page.nodes l m is low).1) all lawful

  pub means : (all : List Mark) → Lawful may all → (h w word : ℕ) (k : Key) → Spells cells all h k → WordSet cells all h w word → WordMay cells all facts h k w word
  means all lawful = word_means cells all lawful.1 facts (granted all) (λ m c w has low at holds. page.rows all m c w lawful.1 (lawful.0 m has) low at holds)

  -- a word that stands is the one that may
  pub word_one : (all : List Mark) → Lawful may all → (h w stood word : ℕ) (k : Key) → Spells cells all h k → WordMay cells all facts h k w word → WordSet cells all h w stood → stood ≡ word
  word_one all lawful h w stood word k spells can set =
      let m = means all lawful h w stood k spells set in
      let e = same_told _ m.0 can.0 m.1 can.1 in
      same_word cells all (cell_one all lawful) can.0 stood word (subst (λ (x : Entry Key). IsWordOf cells all x stood) e m.2) can.2

  -- a loaded key has level 3
  pub level_three : (all : List Mark) → Lawful may all → (k : Key) → IsLoaded cells all facts k → LevelSet cells all 3 k
  level_three all lawful k loaded =
      let top = loaded.2 in
      let four = (means all lawful top.0 7 (row_word 4 0) loaded.0 top.1 top.2).3 (omega arith, omega arith) in
      four.3 refl k loaded.1

  -- its record is set
  pub record_set : (all : List Mark) → Lawful may all → (h : ℕ) (k : Key) → Spells cells all h k → IsLoaded cells all facts k → SetWhere cells all facts IsOtherWord h k
  record_set all lawful h k spells loaded =
      let low = level_three all lawful k loaded in
      let three = (means all lawful low.0 6 (row_word 3 0) k low.1 low.2).3 (omega arith, omega arith) in
      subst (λ (x : ℕ). SetWhere cells all facts IsOtherWord x k) (one_handle cells all (cell_one all lawful) k low.0 h low.1 spells) (three.2 refl).0

  -- a word that stands at level 4 is the level's
  pub level_four : (all : List Mark) → Lawful may all → (h : ℕ) (k : Key) → Spells cells all h k → (word by : ℕ) → Has all (mark (row_place cells h 7) word by) → LevelSet cells all 4 k
  level_four all lawful h k spells word by has =
      let set : WordSet cells all h 7 word = (h, level_row cells all h k 4 (omega arith) spells, (by, has)) in
      let m = means all lawful h 7 word k spells set in
      let e = same_told _ m.0 (entry 4 None) m.1 (level_tells (facts.record_of k) 3 (omega arith)) in
      let is = level_word cells all 4 word (subst (λ (x : Entry Key). IsWordOf cells all x word) e m.2) in
      (h, spells, subst (λ (x : ℕ). WordSet cells all h 7 x) is set)

  -- where a key has level 4, the place of its word isn't free
  pub level_not_free : (all : List Mark) → Lawful may all → (h : ℕ) (k : Key) → Spells cells all h k → LevelSet cells all 4 k → ((m : Mark) → Has all m → m.place ≡ row_place cells h 7 → ⊥) → ⊥
  level_not_free all lawful h k spells level unset =
      let same : level.0 ≡ h = one_handle cells all (cell_one all lawful) k level.0 h level.1 spells in
      let at : level.2.0 ≡ h = level.2.1.1 refl ∙ same in
      unset (mark (row_place cells level.2.0 7) (row_word 4 0) level.2.2.0) level.2.2.1 (ap (λ (c : ℕ). row_place cells c 7) at)

  -- where the row of a known word lies, the word is set
  pub word_there : (all : List Mark) → Lawful may all → (h w c : ℕ) (k : Key) (e : Entry Key) → Spells cells all h k → IsLoaded cells all facts k → IsOtherWord w → Tells facts k w e → IsRowOf cells all h (w / 32) c
      → (word by : ℕ) × IsWordOf cells all e word × Has all (mark (row_place cells c (w % 32)) word by)
  word_there all lawful h w c k e spells loaded other tells row =
      let s = record_set all lawful h k spells loaded w e other tells in
      let same = one_row_cell cells all (cell_one all lawful) h (w / 32) s.2.0 c s.2.1 row in
      (s.0, s.2.2.0, s.1, subst (λ (x : ℕ). Has all (mark (row_place cells x (w % 32)) s.0 s.2.2.0)) same s.2.2.1)

  -- a word that stands where the row of a key lies is that of its entry
  pub stands_for : (all : List Mark) → Lawful may all → (h w c : ℕ) (k : Key) (e : Entry Key) → Spells cells all h k → Tells facts k w e → IsRowOf cells all h (w / 32) c
      → (word by : ℕ) → Has all (mark (row_place cells c (w % 32)) word by) → IsWordOf cells all e word
  stands_for all lawful h w c k e spells tells row word by has =
      let m = means all lawful h w word k spells (c, row, (by, has)) in
      subst (λ (x : Entry Key). IsWordOf cells all x word) (same_told _ m.0 e m.1 tells) m.2

  -- the node of a further row of a loaded key's record, in which a word is, is in a cell
  row_stands : (all : List Mark) → Lawful may all → (h w : ℕ) (k : Key) (e : Entry Key) → Spells cells all h k → IsLoaded cells all facts k → IsOtherWord w → Tells facts k w e → 0 < w / 32
      → (c by : ℕ) × (c < cells) × Has all (mark c (node_word (Row (record { 0 = h }) (w / 32))) by)
  row_stands all lawful h w k e spells loaded other tells further =
      let s = record_set all lawful h k spells loaded w e other tells in
      let r = s.2.1.2 further in (s.2.0, r.2.0, r.0, r.2.1)

  -- and its number has room in a node
  pub row_narrow : (old : List Mark) → ((all : List Mark) × Lawful may all × Within old all) → (h w : ℕ) (k : Key) (e : Entry Key) → Knows may cells old facts h k → IsOtherWord w → Tells facts k w e → 0 < w / 32 → w / 32 < 4294967296
  row_narrow old reached h w k e knows other tells further =
      let known = knows.1 reached.0 reached.1 reached.2 in
      ((record_set reached.0 reached.1 h k known.0 known.1 w e other tells).2.1.2 further).1.1

  pub row_not_absent : (old new : List Mark) → Within old new → ((all : List Mark) × Lawful may all × Within new all) → (h w : ℕ) (k : Key) (e : Entry Key) → Knows may cells old facts h k → IsOtherWord w → Tells facts k w e → 0 < w / 32
      → Absent may cells new (node_word (Row (record { 0 = h }) (w / 32))) → ⊥
  row_not_absent old new grown reached h w k e knows other tells further absent =
      let node = node_word (Row (record { 0 = h }) (w / 32)) in
      ⊎_elim (λ free. let known = knows.1 free.0 free.1 (λ m has. free.2 m (grown m has)) in
      let s = row_stands free.0 free.1 h w k e known.0 known.1 other tells further in free.3 (mark s.0 node s.1) s.3 s.2 refl)
      (λ full. let all = reached.0 in let lawful = reached.1 in
      let known = knows.1 all lawful (λ m has. reached.2 m (grown m has)) in
      let s = row_stands all lawful h w k e known.0 known.1 other tells further in
      let m : Mark = mark s.0 node s.1 in
      let order = (page.nodes all m (lawful.0 m s.3) s.2).1 in
      let b = full order.0 order.1 in
      let one : m ≡ b.0 = lawful.1 m b.0 s.3 (reached.2 b.0 b.1) (order.2 ∙ sym {a = b.0.place} b.2) in
      let word : node ≡ b.0.word = ap (λ (x : Mark). x.word) one in
      b.3 (sym {a = node} word))
      absent

  -- the place of a word of a known record isn't free
  pub not_vacant : (old new : List Mark) → Within old new → (all : List Mark) → Lawful may all → Within new all → (h w c : ℕ) (k : Key) (e : Entry Key) → Knows may cells old facts h k → IsOtherWord w → Tells facts k w e → IsRowOf cells new h (w / 32) c
      → ((m : Mark) → Has all m → m.place ≡ row_place cells c (w % 32) → ⊥) → ⊥
  not_vacant old new grown all lawful on h w c k e knows other tells row unset =
      let known = knows.1 all lawful (λ m has. on m (grown m has)) in
      let s = word_there all lawful h w c k e known.0 known.1 other tells (row_of_on cells new all on h (w / 32) c row) in
      unset (mark (row_place cells c (w % 32)) s.0 s.1) s.3 refl

  -- the word that a pass has seen in the record of a known key, read as an entry
  module _ (closed : IsClosed facts) (old new : List Mark) (grown : Within old new) (reached : (all : List Mark) × Lawful may all × Within new all) (h w c : ℕ) (row : IsRowOf cells new h (w / 32) c) (word by : ℕ) (has : Has new (mark (row_place cells c (w % 32)) word by)) where
    word_in : (all : List Mark) → Lawful may all → Within new all → (k : Key) (e : Entry Key) → Names may cells old h k → Tells facts k w e → IsWordOf cells all e word
    word_in all lawful on k e names tells =
        stands_for all lawful h w c k e (names all lawful (λ m t. on m (grown m t))) tells (row_of_on cells new all on h (w / 32) c row) word by (on (mark (row_place cells c (w % 32)) word by) has)

    pub is_read : (k : Key) (e : Entry Key) → Names may cells old h k → Tells facts k w e → IsTheOne (λ x. FitsWord x × (word_of x ≡ word)) None → ⊥
    is_read k e names tells none = let s = word_in reached.0 reached.1 reached.2 k e names tells in none s.0 (s.1, sym s.3)

    module _ (told : Entry Handle) (read : IsTheOne (λ x. FitsWord x × (word_of x ≡ word)) (Some told)) where
      spelled : (all : List Mark) → Lawful may all → Within new all → (k : Key) (e : Entry Key) → Names may cells old h k → Tells facts k w e → SpellsEntry cells all told e
      spelled all lawful on k e names tells = let s = word_in all lawful on k e names tells in
          subst (λ (x : Entry Handle). SpellsEntry cells all x e) (read.1 s.0 (s.1, sym s.3)) s.2

      known_optional : (g : Option Handle) (t : Option Key) → SpellsOptional cells reached.0 g t
          → ((all : List Mark) → Lawful may all → Within new all → SpellsOptional cells all g t × ((x : Key) → t ≡ Some x → IsLoaded cells all facts x)) → KnowsOptional may cells new facts g t
      known_optional None None s each = tt
      known_optional None (Some t) s each = s
      known_optional (Some g) None s each = s
      known_optional (Some g) (Some t) s each = (spells_inside cells reached.0 g.0 t s, λ all lawful on. let r = each all lawful on in (r.0, r.1 t refl))

      pub known_entry : (j k : Key) (e : Entry Key) → Knows may cells old facts h j → Names may cells old h k → Tells facts k w e → KnowsEntry may cells new facts told e
      known_entry j k e knows names tells =
          let s = spelled reached.0 reached.1 reached.2 k e names tells in (
            s.0,
            known_optional told.key e.key s.1 (λ all lawful on.
                let within : Within old all = λ m t. on m (grown m t) in
                let known = knows.1 all lawful within in
                let same = one_key cells all lawful.1 h j k known.0 (names all lawful within) in (
                  (spelled all lawful on k e names tells).1,
                  (λ x is. let root = known.1.0 in
                      let inside = subst (λ (y : Key). Contains (facts.closure root) y) same known.1.1 in
                      (root, closed.names root k x w e inside tells is, known.1.2)),
                )),
          )

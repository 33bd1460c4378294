-- What a word that stands in a row means.
use Rattle.std.proofs.Common.{◌≡◌, ℕ, ◌/◌, ◌%◌, ◌<◌, List, unwrap_or, Option, None, Some, sym, refl, ap, ◌∙◌, subst, arith}
use mathlib.Core.Logic.{dite}
use native.Mathlib.Decide.{ℕ_discrete}
use Rattle.clr_base.specs.declared.ids.Handle.{Handle}
use Rattle.word_board.specs.Marks.{mark, Has, Once}
use Rattle.word_board.specs.Places.{row_place}
use Rattle.word_board.specs.declared.view.Mark.{Mark}
use Rattle.node_set.specs.Nodes.{first_of, second_of, word_of as node_word}
use Rattle.node_set.specs.Keys.{Key, Spells}
use Rattle.node_set.specs.Probing.{OneCell}
use Rattle.node_set.specs.declared.node.Node.TheVariants.{Row, Head, Argument, Array, Method}
use Rattle.node_set.proofs.Spelling.{stands_one, no_row, one_key, one_handle}
use Rattle.type_record.specs.declared.entry.Entry.{Entry}
use Rattle.type_record.specs.Words.{word_of}
use Rattle.key_rows.specs.Facts.{Facts}
use Rattle.key_rows.specs.Rows.{IsRowOf, HoldsRecord, WordSet, SpellsOptional, IsWordOf, WordMay, RowRule}

pub same_told : {A : Type 0} (o : Option A) (e f : A) → o ≡ Some e → o ≡ Some f → e ≡ f
same_told {A} o e f a b = ap (λ (p : Option A). unwrap_or p e) (sym a ∙ b)

module _ (cells : ℕ) (all : List Mark) (once : Once all) where
  -- a cell has one row of one key
  one_row : (c h g row other : ℕ) (k l : Key) → IsRowOf cells all h row c → IsRowOf cells all g other c → Spells cells all h k → Spells cells all g l → (h ≡ g) × (row ≡ other)
  one_row c h g row other k l a b s t = dite (ℕ_discrete row 0)
      (λ first. dite (ℕ_discrete other 0)
      (λ second. (sym (a.1 first) ∙ b.1 second, first ∙ sym second))
      (λ further. absurd (no_row cells all once c k (record { 0 = g }) other (subst (λ (x : ℕ). Spells cells all x k) (sym (a.1 first)) s) (b.2 (omega arith)))))
      (λ further. dite (ℕ_discrete other 0)
      (λ second. absurd (no_row cells all once c l (record { 0 = h }) row (subst (λ (x : ℕ). Spells cells all x l) (sym (b.1 second)) t) (a.2 (omega arith))))
      (λ far. let e = stands_one cells all once c (Row (record { 0 = h }) row) (Row (record { 0 = g }) other) (a.2 (omega arith)) (b.2 (omega arith)) in (ap first_of e, ap second_of e)))

  key_holds : (h : ℕ) (k : Key) → Spells cells all h k → HoldsRecord cells all h
  key_holds h (Key.head d) s = (Head d, s, omega arith)
  key_holds h (Key.put k x) s = (Argument s.0 s.1, s.2, omega arith)
  key_holds h (Key.array e) s = (Array s.0, s.1, omega arith)
  key_holds h (Key.method m o) s = (Method m s.0, s.1, omega arith)

  -- the cell of a row of a key's record
  row_holds : (h row c : ℕ) (k : Key) → Spells cells all h k → IsRowOf cells all h row c → HoldsRecord cells all c
  row_holds h row c k spells is = dite (ℕ_discrete row 0)
      (λ first. subst (λ (x : ℕ). HoldsRecord cells all x) (sym (is.1 first)) (key_holds h k spells))
      (λ further. (Row (record { 0 = h }) row, is.2 (omega arith), omega arith))

  module _ (facts : Facts) (granted : Key → Type 0) (rules : (m : Mark) (c w : ℕ) → Has all m → w < 32 → m.place ≡ row_place cells c w → HoldsRecord cells all c → RowRule cells all facts granted m) where
    -- a word that stands in a row of a key is one that may stand there
    pub word_means : (h w word : ℕ) (k : Key) → Spells cells all h k → WordSet cells all h w word → WordMay cells all facts h k w word
    word_means h w word k spells set =
        let c = set.0 in let inside = set.1.0 in
        let rest : w % 32 < 32 = omega arith in
        let rule = rules (mark (row_place cells c (w % 32)) word set.2.0) c (w % 32) set.2.1 rest refl (row_holds h (w / 32) c k spells set.1) in
        let at = rule.at in let low = rule.row.0 in
        let rest' : rule.word % 32 < 32 = omega arith in
        let same-c : c ≡ rule.cell = omega arith in
        let same-rest : w % 32 ≡ rule.word % 32 = omega arith in
        let row = one_row c h rule.handle (w / 32) (rule.word / 32) k rule.key set.1 (subst (λ (x : ℕ). IsRowOf cells all rule.handle (rule.word / 32) x) (sym same-c) rule.row) spells rule.spells in
        let same-row = row.1 in
        let same-w : rule.word ≡ w = omega arith in
        let same-h = sym row.0 in
        let same-k : rule.key ≡ k = one_key cells all once h rule.key k (subst (λ (g : ℕ). Spells cells all g rule.key) same-h rule.spells) spells in
        subst (λ (x : ℕ × Key × ℕ). WordMay cells all facts x.0 x.1 x.2 word) (λ i. (same-h i, same-k i, same-w i)) rule.may

module _ (cells : ℕ) (all : List Mark) (one : OneCell cells all) where
  -- a row of a key has one cell
  pub one_row_cell : (h row c d : ℕ) → IsRowOf cells all h row c → IsRowOf cells all h row d → c ≡ d
  one_row_cell h row c d a b = dite (ℕ_discrete row 0)
      (λ first. a.1 first ∙ sym (b.1 first))
      (λ further. let s = a.2 (omega arith) in let t = b.2 (omega arith) in let word = node_word (Row (record { 0 = h }) row) in
      ap (λ (x : Mark). x.place) (one (mark c word s.2.0) (mark d word t.2.0) s.2.1 t.2.1 s.0 t.0 refl))

  same_optional : (g h : Option Handle) (k : Option Key) → SpellsOptional cells all g k → SpellsOptional cells all h k → g ≡ h
  same_optional None None None s t = refl
  same_optional None (Some h) None s t = absurd t
  same_optional (Some g) h None s t = absurd s
  same_optional None h (Some k) s t = absurd s
  same_optional (Some g) None (Some k) s t = absurd t
  same_optional (Some g) (Some h) (Some k) s t = let e = one_handle cells all one k g.0 h.0 s t in λ i. Some (record { 0 = e i })

  -- an entry has one word
  pub same_word : (e : Entry Key) (r word : ℕ) → IsWordOf cells all e r → IsWordOf cells all e word → r ≡ word
  same_word e r word s t =
      let number : s.0.number ≡ t.0.number = s.2.0 ∙ sym t.2.0 in
      let key = same_optional s.0.key t.0.key e.key s.2.1 t.2.1 in
      let told : s.0 ≡ t.0 = λ i. record { number = number i; key = key i } in
      s.3 ∙ (ap word_of told ∙ sym t.3)

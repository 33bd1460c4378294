-- In a lawful board a slot has one signature, and a signature one slot of a layout.
use Rattle.std.proofs.Common.{◌≡◌, ℕ, ◌+◌, ◌*◌, ◌/◌, ◌%◌, ◌<◌, List, ap, refl, subst, arith}
use mathlib.Core.Logic.{dite}
use native.Mathlib.Decide.{ℕ_discrete, dec_lt}
use Rattle.clr_base.specs.declared.ids.Handle.{Handle}
use Rattle.clr_base.specs.declared.ids.SigId.{SigId}
use Rattle.word_board.specs.Marks.{mark, Has, Within, Once}
use Rattle.word_board.specs.Places.{row_place, IsInRows}
use Rattle.word_board.specs.declared.view.Mark.{Mark}
use Rattle.node_set.specs.Nodes.{word_of}
use Rattle.node_set.specs.Keys.{Stands}
use Rattle.node_set.specs.Probing.{OneCell}
use Rattle.node_set.specs.declared.node.Node.{Node}
use Rattle.node_set.specs.declared.node.Node.TheVariants.{LayoutSegment, DictionarySegment}
use Rattle.node_set.proofs.Spelling.{stands_one}
use Rattle.dict_slots.specs.Slots.{IsSet, HasSlot, OthersBefore, IsFilled, RowMay, SlotRule, has_slot_on}
use Rattle.dict_slots.specs.Searches.{IsFree, HasNoSlot}

same_sig : (s t : SigId) → s.0 ≡ t.0 → s ≡ t
same_sig s t e = λ i. record { 0 = e i }

same_handle : (a b : Handle) → a.0 ≡ b.0 → a ≡ b
same_handle a b e = λ i. record { 0 = e i }

module _ (cells : ℕ) (all : List Mark) (once : Once all) where
  pub same_word : (place v w : ℕ) → IsSet all place v → IsSet all place w → v ≡ w
  same_word place v w s t = ap (λ (m : Mark). m.word) (once (mark place v s.0) (mark place w t.0) s.1 t.1 refl)

  module _ (one : OneCell cells all) where
    same_cell : (n : Node) (c d : ℕ) → Stands cells all c n → Stands cells all d n → c ≡ d
    same_cell n c d s t = ap (λ (m : Mark). m.place) (one (mark c (word_of n) s.2.0) (mark d (word_of n) t.2.0) s.2.1 t.2.1 s.0 t.0 refl)

    -- a word of the row of a node is one
    row_word : (n : Node) (c d k v w : ℕ) → Stands cells all c n → Stands cells all d n → IsSet all (row_place cells c k) v → IsSet all (row_place cells d k) w → v ≡ w
    row_word n c d k v w s t a b = same_word (row_place cells c k) v w a (subst (λ (x : ℕ). IsSet all (row_place cells x k) w) (same_cell n d c t s) b)

    pub one_signature : (canonical : Handle) (slot : ℕ) (s t : SigId) → HasSlot cells all canonical slot s → HasSlot cells all canonical slot t → s ≡ t
    one_signature canonical slot s t a b =
        let e : s.0 + 1 ≡ t.0 + 1 = row_word (LayoutSegment canonical (slot / 32)) a.0 b.0 (slot % 32) (s.0 + 1) (t.0 + 1) a.1 b.1 a.2 b.2 in
        same_sig s t (omega arith)

    pub one_handle : (exact : Handle) (slot : ℕ) (g h : Handle) → IsFilled cells all exact slot g → IsFilled cells all exact slot h → g ≡ h
    one_handle exact slot g h a b =
        let e : g.0 + 1 ≡ h.0 + 1 = row_word (DictionarySegment exact (slot / 32)) a.0 b.0 (slot % 32) (g.0 + 1) (h.0 + 1) a.1 b.1 a.2 b.2 in
        same_handle g h (omega arith)

  module _ (rules : (m : Mark) → Has all m → IsInRows cells m.place → SlotRule cells all m) where
    -- what is set in the row of a cell may stand there
    pub row_may : (n : Node) (cell w word : ℕ) → w < 32 → Stands cells all cell n → IsSet all (row_place cells cell w) word → RowMay cells all n w word
    row_may n cell w word low stands set =
        let inside : cell < cells = stands.0 in
        let r = rules (mark (row_place cells cell w) word set.0) set.1 (omega arith, omega arith) in
        let below : r.1 < 32 = r.3 in
        let at : row_place cells cell w ≡ row_place cells r.0 r.1 = r.4 in
        let here : r.0 ≡ cell = omega arith in
        let same : r.1 ≡ w = omega arith in
        let is : r.2 ≡ n = stands_one cells all once cell r.2 n (subst (λ (x : ℕ). Stands cells all x r.2) here r.5) stands in
        subst (λ (x : Node × ℕ). RowMay cells all x.0 x.1 word) (λ i. (is i, same i)) r.6

    pub filled_inside : (exact : Handle) (slot : ℕ) (h : Handle) → IsFilled cells all exact slot h → h.0 < cells
    filled_inside exact slot h s =
        let r = row_may (DictionarySegment exact (slot / 32)) s.0 (slot % 32) (h.0 + 1) (omega arith) s.1 s.2 in
        let low : r.0.0 < cells = r.1 in let is : h.0 + 1 ≡ r.0.0 + 1 = r.2 in omega arith

    pub others_before : (canonical : Handle) (slot : ℕ) (sig : SigId) → HasSlot cells all canonical slot sig → OthersBefore cells all canonical sig slot
    others_before canonical slot sig s =
        let r = row_may (LayoutSegment canonical (slot / 32)) s.0 (slot % 32) (sig.0 + 1) (omega arith) s.1 s.2 in
        let e : sig.0 + 1 ≡ r.0.0 + 1 = r.1 in
        let is : r.0 ≡ sig = same_sig r.0 sig (omega arith) in
        let at : 32 * (slot / 32) + slot % 32 ≡ slot = omega arith in
        subst (λ (x : SigId × ℕ). OthersBefore cells all canonical x.0 x.1) (λ i. (is i, at i)) r.2

    module _ (one : OneCell cells all) where
      clash : (canonical : Handle) (m n : ℕ) (sig : SigId) → m < n → HasSlot cells all canonical m sig → HasSlot cells all canonical n sig → ⊥
      clash canonical m n sig low a b = let o = others_before canonical n sig b m low in o.2 (ap (λ (s : SigId). s.0) (one_signature one canonical m o.0 sig o.1 a))

      pub one_slot : (canonical : Handle) (m n : ℕ) (sig : SigId) → HasSlot cells all canonical m sig → HasSlot cells all canonical n sig → m ≡ n
      one_slot canonical m n sig a b = dite (ℕ_discrete m n) (λ e. e)
          (λ ne. dite (dec_lt m n) (λ low. absurd (clash canonical m n sig low a b)) (λ high. absurd (clash canonical n m sig (omega arith) b a)))

      -- a free slot behind those of others: the signature has none
      pub no_slot : (seen : List Mark) (canonical : Handle) (sig : SigId) (n : ℕ) → Within seen all → OthersBefore cells seen canonical sig n → IsFree cells all canonical n → HasNoSlot cells all canonical sig
      no_slot seen canonical sig n within before free m has = dite (dec_lt m n)
          (λ low. let o = before m low in o.2 (ap (λ (s : SigId). s.0) (one_signature one canonical m o.0 sig (has_slot_on cells seen all within canonical m o.0 o.1) has)))
          (λ high. dite (ℕ_discrete m n)
          (λ e. let s = subst (λ (x : ℕ). HasSlot cells all canonical x sig) e has in free s.0 s.1 (mark (row_place cells s.0 (n % 32)) (sig.0 + 1) s.2.0) s.2.1 refl)
          (λ ne. let o = others_before canonical m sig has n (omega arith) in
          free o.1.0 o.1.1 (mark (row_place cells o.1.0 (n % 32)) (o.0.0 + 1) o.1.2.0) o.1.2.1 refl))

-- What may stand as a slot is taken, and what was set.
use Rattle.std.proofs.Common.{◌≡◌, ℕ, ◌+◌, ◌*◌, ◌/◌, ◌%◌, ◌<◌, List, [], ◌∷◌, ◌++◌, get_or, sym, ap, refl, ◌∙◌, subst, inl, inr, ⊎_elim, append_assoc, arith}
use Rattle.clr_base.specs.declared.ids.Handle.{Handle}
use Rattle.clr_base.specs.declared.ids.SigId.{SigId}
use Rattle.word_board.specs.Marks.{mark, Within}
use Rattle.word_board.specs.Places.{row_place}
use Rattle.word_board.specs.Numbers.{name}
use Rattle.word_board.specs.Views.{number_of, Grown, KeepsOne}
use Rattle.word_board.specs.declared.view.Mark.{Mark}
use Rattle.word_board.specs.declared.view.Name.{Name}
use Rattle.word_board.specs.declared.view.View.{View}
use Rattle.word_board.proofs.Lists.{has_snoc}
use Rattle.node_set.specs.Nodes.{word_of}
use Rattle.node_set.specs.Keys.{Stands, stands_on}
use Rattle.node_set.specs.declared.node.Node.TheVariants.{LayoutSegment}
use Rattle.dict_slots.specs.Slots.{OthersBefore, others_on}
use Rattle.dict_slots.specs.Searches.{RowOthers, SlotMay, AreSegments, KeepsSegments, KeepsSlot}
use Rattle.dict_slots.proofs.Rowing.{others_here}

pub kept_at : (before after : List Mark) (place at word by : ℕ) → place ≡ at → after ≡ before ++ mark place word by ∷ [] → after ≡ before ++ mark at word by ∷ []
kept_at before after place at word by e kept = kept ∙ ap (λ (p : ℕ). before ++ mark p word by ∷ []) e

pub same_number : {P : Type 0} (v w : View P) → Grown v w → number_of v ≡ number_of w
same_number v w grown = ap (λ (l : List Name). (get_or l 0 (name 0)).number) (sym grown.2)

pub may_take : (may : List Mark → Mark → Type 0) (cells : ℕ) (seen mid : List Mark) (canonical : Handle) (sig : SigId) (by number segment cell : ℕ) → SlotMay may cells seen canonical sig by → by ≡ number → Within seen mid → segment < 64
    → Stands cells mid cell (LayoutSegment canonical segment) → OthersBefore cells mid canonical sig (32 * segment)
    → (more : List Mark) (w : ℕ) → Within mid more → w < 32 → RowOthers cells more cell sig w → may more (mark (row_place cells cell w) (sig.0 + 1) number)
may_take may cells seen mid canonical sig by number segment cell can same within low stands before more w on few others =
    let row : segment ≡ (32 * segment + w) / 32 = omega arith in
    let at : (32 * segment + w) % 32 ≡ w = omega arith in
    let here = stands_on cells mid more on cell (LayoutSegment canonical segment) stands in
    let ok = can more cell (32 * segment + w) (λ m h. on m (within m h)) (omega arith) (subst (λ (x : ℕ). Stands cells more cell (LayoutSegment canonical x)) row here)
    (others_here cells more canonical segment cell here sig w (omega arith) (others_on cells mid more on canonical sig (32 * segment) before) others) in
    subst (λ (x : ℕ × ℕ). may more (mark (row_place cells cell x.0) (sig.0 + 1) x.1)) (λ i. (at i, same i)) ok

module _ {P : Type 0} (cells : ℕ) (canonical : Handle) where
  pub keeps_same : (u v w : View P) (count : ℕ) → w.kept ≡ v.kept → KeepsSegments cells u v canonical count → KeepsSegments cells u w canonical count
  keeps_same u v w count same k = (k.0, k.1, same ∙ k.2)

  more_segments : (v w u x : View P) (count more : ℕ) (ms : List Mark) → number_of v ≡ number_of v → count < more + 1 → AreSegments cells v w canonical count ms → AreSegments cells v x canonical more ms
  more_segments v w u x count more ms e low are m h = let a = are m h in (a.0, a.1, a.2, (let below : a.1 < count = a.3 in omega arith), a.4)

  -- a segment more was put
  pub segments_next : (u v w : View P) (cell segment : ℕ) → Grown u v → cell < cells → KeepsSegments cells u v canonical segment → KeepsOne v w cell (word_of (LayoutSegment canonical segment)) → KeepsSegments cells u w canonical (segment + 1)
  segments_next u v w cell segment grown low k (inl same) = (k.0, more_segments u v u w segment (segment + 1) k.0 refl (omega arith) k.1, same ∙ k.2)
  segments_next u v w cell segment grown low k (inr one) =
      let m = mark cell (word_of (LayoutSegment canonical segment)) (number_of v) in (
        k.0 ++ m ∷ [],
        λ n h. ⊎_elim (λ t. more_segments u v u w segment (segment + 1) k.0 refl (omega arith) k.1 n t)
            (λ (e : m ≡ n). (cell, segment, low, (let l : segment < segment + 1 = omega arith in l), sym e ∙ ap (λ (x : ℕ). mark cell (word_of (LayoutSegment canonical segment)) x) (sym (same_number u v grown))))
            (has_snoc k.0 m n h),
        one ∙ (ap (λ (l : List Mark). l ++ m ∷ []) k.2 ∙ append_assoc u.kept k.0 (m ∷ [])),
      )

  -- and then perhaps the slot
  pub slot_next : (u v w : View P) (sig : SigId) (cell segment word : ℕ) → Grown u v → word < 32 → Stands cells w.seen cell (LayoutSegment canonical segment) → KeepsSegments cells u v canonical (segment + 1) → KeepsOne v w (row_place cells cell word) (sig.0 + 1)
      → KeepsSlot cells u w canonical sig (32 * segment + word)
  slot_next u v w sig cell segment word grown low stands k one =
      let row : segment ≡ (32 * segment + word) / 32 = omega arith in
      let at : word ≡ (32 * segment + word) % 32 = omega arith in
      let number = sym (same_number u v grown) in (
        k.0,
        more_segments u v u w (segment + 1) ((32 * segment + word) / 32 + 1) k.0 refl (omega arith) k.1,
        ⊎_elim (λ same. inl (same ∙ k.2))
            (λ (set : w.kept ≡ v.kept ++ mark (row_place cells cell word) (sig.0 + 1) (number_of v) ∷ []). inr (
              cell,
              subst (λ (x : ℕ). Stands cells w.seen cell (LayoutSegment canonical x)) row stands,
              set ∙ ((λ i. k.2 i ++ mark (row_place cells cell (at i)) (sig.0 + 1) (number i) ∷ [])),
            )) one,
      )

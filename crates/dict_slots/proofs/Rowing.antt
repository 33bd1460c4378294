-- The words of a segment's row are the slots of its layout.
use Rattle.std.proofs.Common.{◌≡◌, ◌≢◌, ℕ, ◌+◌, ◌-◌, ◌*◌, ◌/◌, ◌%◌, ◌<◌, List, sym, subst, arith}
use mathlib.Core.Logic.{dite}
use native.Mathlib.Decide.{dec_lt}
use Rattle.clr_base.specs.declared.ids.Handle.{Handle}
use Rattle.clr_base.specs.declared.ids.SigId.{SigId}
use Rattle.word_board.specs.Marks.{mark, Has, Within}
use Rattle.word_board.specs.Places.{row_place}
use Rattle.word_board.specs.Views.{Vacant}
use Rattle.word_board.specs.declared.view.Mark.{Mark}
use Rattle.word_board.specs.declared.view.View.{View}
use Rattle.node_set.specs.Keys.{Stands}
use Rattle.node_set.specs.declared.node.Node.TheVariants.{LayoutSegment}
use Rattle.dict_slots.specs.Slots.{IsSet, HasSlot, OthersBefore, is_set_on, others_on}
use Rattle.dict_slots.specs.Searches.{RowOthers, Ends}
use Rattle.dict_slots.specs.declared.seeking.RowEnd.TheVariants.{Free}

pub set_here : (all : List Mark) (place at word by : ℕ) → place ≡ at → Has all (mark place word by) → IsSet all at word
set_here all place at word by e has = (by, subst (λ (p : ℕ). Has all (mark p word by)) e has)

module _ (cells : ℕ) where
  pub row_others_on : (xs ys : List Mark) (cell : ℕ) (sig : SigId) (w : ℕ) → Within xs ys → RowOthers cells xs cell sig w → RowOthers cells ys cell sig w
  row_others_on xs ys cell sig w on before i low = let b = before i low in (b.0, b.1, is_set_on xs ys on (row_place cells cell i) b.0 b.2, b.3)

  -- one word more is another's
  pub row_next : (xs ys : List Mark) (cell : ℕ) (sig : SigId) (w word : ℕ) → Within xs ys → RowOthers cells xs cell sig w → 0 < word → IsSet ys (row_place cells cell w) word → word ≢ sig.0 + 1 → RowOthers cells ys cell sig (w + 1)
  row_next xs ys cell sig w word on before pos set ne i low = dite (dec_lt i w)
      (λ lower. row_others_on xs ys cell sig w on before i lower)
      (λ high. let e : w ≡ i = omega arith in (word, pos, subst (λ (x : ℕ). IsSet ys (row_place cells cell x) word) e set, ne))

  -- a word of the row was loaded as 0
  pub free_here : {P : Type 0} (may : P → List Mark → Mark → Type 0) (v w : View P) (cell : ℕ) (sig : SigId) (k place : ℕ) → w ≡ v → place ≡ row_place cells cell k → k < 32 → RowOthers cells v.seen cell sig k → Vacant may v place
      → Ends may cells w cell sig (Free k)
  free_here {P} may v w cell sig k place same at low others vacant = subst (λ (u : View P). Ends may cells u cell sig (Free k)) (sym same) (low, others, subst (Vacant may v) at vacant)

  module _ (all : List Mark) (canonical : Handle) (segment cell : ℕ) (stands : Stands cells all cell (LayoutSegment canonical segment)) where
    pub slot_here : (w : ℕ) (sig : SigId) → w < 32 → IsSet all (row_place cells cell w) (sig.0 + 1) → HasSlot cells all canonical (32 * segment + w) sig
    slot_here w sig low set =
        let row : segment ≡ (32 * segment + w) / 32 = omega arith in
        let at : w ≡ (32 * segment + w) % 32 = omega arith in (
          cell,
          subst (λ (x : ℕ). Stands cells all cell (LayoutSegment canonical x)) row stands,
          subst (λ (x : ℕ). IsSet all (row_place cells cell x) (sig.0 + 1)) at set,
        )

    -- the slots before a word of the row are those before its segment, and the words before it
    pub others_here : (sig : SigId) (w : ℕ) → w < 33 → OthersBefore cells all canonical sig (32 * segment) → RowOthers cells all cell sig w → OthersBefore cells all canonical sig (32 * segment + w)
    others_here sig w few before row i low = dite (dec_lt i (32 * segment))
        (λ lower. before i lower)
        (λ high.
        let k : i - 32 * segment < w = omega arith in
        let r = row (i - 32 * segment) k in
        let pos : 0 < r.0 = r.1 in
        let word : r.0 ≡ r.0 - 1 + 1 = omega arith in
        let at : 32 * segment + (i - 32 * segment) ≡ i = omega arith in
        let other : SigId = record { 0 = r.0 - 1 } in
        let s = slot_here (i - 32 * segment) other (omega arith) (subst (λ (x : ℕ). IsSet all (row_place cells cell (i - 32 * segment)) x) word r.2) in
        (other, subst (λ (x : ℕ). HasSlot cells all canonical x other) at s, λ e. r.3 (let is : r.0 - 1 ≡ sig.0 = e in omega arith)))

  -- all words of a segment's row are others'
  pub segment_others : (old new : List Mark) (canonical : Handle) (segment cell : ℕ) (sig : SigId) → Within old new → Stands cells new cell (LayoutSegment canonical segment) → OthersBefore cells old canonical sig (32 * segment) → RowOthers cells new cell sig 32
      → OthersBefore cells new canonical sig (32 * (segment + 1))
  segment_others old new canonical segment cell sig on stands before row =
      let at : 32 * segment + 32 ≡ 32 * (segment + 1) = omega arith in
      subst (OthersBefore cells new canonical sig) at (others_here new canonical segment cell stands sig 32 (omega arith) (others_on cells old new on canonical sig (32 * segment) before) row)

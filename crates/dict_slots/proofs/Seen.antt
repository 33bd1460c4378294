-- What a pass knows of the words that it has seen in the row of a dictionary's segment.
use Rattle.std.proofs.Common.{◌≡◌, ℕ, ◌+◌, ◌<◌, List, Some, sym, subst, arith}
use Rattle.clr_base.specs.declared.ids.Handle.{Handle}
use Rattle.word_board.specs.Marks.{mark, Has}
use Rattle.word_board.specs.Places.{row_place, IsInRows}
use Rattle.word_board.specs.Views.{Known, SeenAt}
use Rattle.word_board.specs.declared.view.Mark.{Mark}
use Rattle.word_board.specs.declared.view.View.{View}
use Rattle.node_set.specs.Keys.{Stands, stands_on}
use Rattle.node_set.specs.declared.node.Node.TheVariants.{DictionarySegment}
use Rattle.dict_slots.specs.Slots.{SlotRule, is_set_on}
use Rattle.dict_slots.proofs.Signatures.{row_may}

module _ {P : Type 0} (may : P → List Mark → Mark → Type 0) (page : P) (cells : ℕ) where
  abbrev pub Rules : Type 0
  Rules = (all : List Mark) (m : Mark) → may page all m → IsInRows cells m.place → SlotRule cells all m

  module _ (rules : Rules) (v : View P) (paged : v.page ≡ Some page) (known : Known may v) where
    -- it is the word of a handle
    pub seen_handle : (exact : Handle) (segment cell w place word by : ℕ) → w < 32 → Stands cells v.seen cell (DictionarySegment exact segment) → place ≡ row_place cells cell w → Has v.seen (mark place word by)
        → (h : Handle) × (h.0 < cells) × (word ≡ h.0 + 1)
    seen_handle exact segment cell w place word by low stands at has =
        let all = known.sound.0 in let lawful = known.sound.1.0 page paged in let within = known.sound.1.1 in
        row_may cells all lawful.1 (λ m h inside. rules all m (lawful.0 m h) inside) (DictionarySegment exact segment) cell w word low
        (stands_on cells v.seen all within cell (DictionarySegment exact segment) stands) (is_set_on v.seen all within (row_place cells cell w) word (by, subst (λ (p : ℕ). Has v.seen (mark p word by)) at has))

    -- so that handle fills the slot
    pub seen_filled : (exact : Handle) (segment cell w place word by : ℕ) → w < 32 → Stands cells v.seen cell (DictionarySegment exact segment) → place ≡ row_place cells cell w → Has v.seen (mark place word by)
        → (h : Handle) → h.0 + 1 ≡ word → (h.0 < cells) × SeenAt v (row_place cells cell w) (h.0 + 1)
    seen_filled exact segment cell w place word by low stands at has h same =
        let r = seen_handle exact segment cell w place word by low stands at has in
        let is : word ≡ r.0.0 + 1 = r.2 in let inside : r.0.0 < cells = r.1 in
        (omega arith, (by, subst (λ (x : ℕ × ℕ). Has v.seen (mark x.0 x.1 by)) (λ i. (at i, sym same i)) has))

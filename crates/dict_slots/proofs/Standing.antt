-- What may stand on a page that asks for no more than the rules of nodes and of slots: callers show the conditions of calls by these.
use Rattle.std.proofs.Common.{◌≡◌, ℕ, ◌+◌, ◌*◌, ◌/◌, ◌%◌, ◌<◌, List, refl, subst, arith}
use Rattle.clr_base.specs.declared.ids.Handle.{Handle}
use Rattle.clr_base.specs.declared.ids.SigId.{SigId}
use Rattle.word_board.specs.Marks.{mark, Within}
use Rattle.word_board.specs.Places.{row_place, IsInRows}
use Rattle.word_board.specs.declared.view.Mark.{Mark}
use Rattle.node_set.specs.Nodes.{word_of, IsNode}
use Rattle.node_set.specs.Keys.{Key, Spells, Stands, spells_on}
use Rattle.node_set.specs.Probing.{NodeRule}
use Rattle.node_set.specs.declared.node.Node.{Node}
use Rattle.node_set.specs.declared.node.Node.TheVariants.{LayoutSegment, DictionarySegment}
use Rattle.node_set.proofs.Probes.{node_may}
use Rattle.dict_slots.specs.Slots.{OthersBefore, SlotRule}
use Rattle.dict_slots.specs.Searches.{NodeMayBut, SegmentsMay, SlotMay}

module _ (may : List Mark → Mark → Type 0) (cells : ℕ) (seen : List Mark) (by : ℕ) where
  -- the page lets this word stand in a cell by the rule of nodes, as more words are set
  abbrev pub LetsNode : Node → Type 0
  LetsNode n = (more : List Mark) (m : Mark) → Within seen more → m.place < cells → m.word ≡ word_of n → m.by ≡ by → NodeRule cells more m → may more m

  -- the page lets this word stand in a row by the rule of slots
  abbrev pub LetsWord : ℕ → Type 0
  LetsWord word = (more : List Mark) (m : Mark) → Within seen more → IsInRows cells m.place → m.word ≡ word → m.by ≡ by → SlotRule cells more m → may more m

  pub segments_may : (canonical : Handle) (sig : SigId) (k : Key) → canonical.0 < 16777216 → Spells cells seen canonical.0 k → ((segment : ℕ) → LetsNode (LayoutSegment canonical segment)) → SegmentsMay may cells seen canonical sig by
  segments_may canonical sig k narrow spells lets more segment within low others =
      let is : IsNode (LayoutSegment canonical segment) = (narrow, omega arith) in (
        is,
        node_may may cells more (LayoutSegment canonical segment) by is (k, spells_on cells seen more within canonical.0 k spells)
            (λ last m on inside word number rule. lets segment last m (λ x h. on x (within x h)) inside word number rule),
      )

  pub slot_may : (canonical : Handle) (sig : SigId) → LetsWord (sig.0 + 1) → SlotMay may cells seen canonical sig by
  slot_may canonical sig lets more cell slot within low stands others =
      let inside : cell < cells = stands.0 in
      let at : slot ≡ 32 * (slot / 32) + slot % 32 = omega arith in
      lets more (mark (row_place cells cell (slot % 32)) (sig.0 + 1) by) within (omega arith, omega arith) refl refl
      (cell, slot % 32, LayoutSegment canonical (slot / 32), omega arith, refl, stands, (sig, refl, subst (OthersBefore cells more canonical sig) at others))

  pub dictionary_may : (exact : Handle) (segment : ℕ) (k : Key) → IsNode (DictionarySegment exact segment) → Spells cells seen exact.0 k → LetsNode (DictionarySegment exact segment) → NodeMayBut may cells seen (DictionarySegment exact segment) by
  dictionary_may exact segment k is spells lets = (is, node_may may cells seen (DictionarySegment exact segment) by is (k, spells) lets)

  pub filling_may : (exact : Handle) (segment cell w : ℕ) (handle : Handle) → Stands cells seen cell (DictionarySegment exact segment) → w < 32 → handle.0 < cells → LetsWord (handle.0 + 1) → may seen (mark (row_place cells cell w) (handle.0 + 1) by)
  filling_may exact segment cell w handle stands low below lets =
      let inside : cell < cells = stands.0 in
      lets seen (mark (row_place cells cell w) (handle.0 + 1) by) (λ x h. h) (omega arith, omega arith) refl refl
      (cell, w, DictionarySegment exact segment, low, refl, stands, (handle, below, refl))

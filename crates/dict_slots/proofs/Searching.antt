-- What the search of a layout tells where it ends without the signature.
use Rattle.std.proofs.Common.{◌≡◌, ℕ, ◌+◌, ◌*◌, ◌/◌, ◌%◌, ◌<◌, ◌≤◌, List, Some, sym, ap, refl, ◌∙◌, subst, inl, inr, arith}
use Rattle.clr_base.specs.declared.ids.Handle.{Handle}
use Rattle.clr_base.specs.declared.ids.SigId.{SigId}
use Rattle.word_board.specs.Marks.{mark, Within, Unset, Lawful}
use Rattle.word_board.specs.Places.{row_place}
use Rattle.word_board.specs.Views.{Known, Vacant}
use Rattle.word_board.specs.declared.view.Mark.{Mark}
use Rattle.word_board.specs.declared.view.View.{View}
use Rattle.node_set.specs.Nodes.{word_of}
use Rattle.node_set.specs.Keys.{Names, Stands, stands_on}
use Rattle.node_set.specs.Probing.{probe, Before, NodeRule, InNoCell, Absent, OneCell}
use Rattle.node_set.specs.declared.node.Node.TheVariants.{LayoutSegment}
use Rattle.node_set.proofs.Words.{same_node}
use Rattle.node_set.proofs.Spelling.{spells_inside}
use Rattle.node_set.proofs.Probes.{one_cell}
use Rattle.dict_slots.specs.Slots.{OthersBefore}
use Rattle.dict_slots.specs.Searches.{RowOthers, IsFree, NoSlotFound}
use Rattle.dict_slots.proofs.Signatures.{no_slot}
use Rattle.dict_slots.proofs.Rowing.{others_here}
use Rattle.dict_slots.proofs.Seen.{Rules}

module _ {P : Type 0} (may : P → List Mark → Mark → Type 0) (page : P) (cells : ℕ) where
  abbrev pub NodeRules : Type 0
  NodeRules = (all : List Mark) (m : Mark) → may page all m → m.place < cells → NodeRule cells all m

  module _ (nodes : NodeRules) (rules : Rules may page cells) where
    one : (all : List Mark) → Lawful (may page) all → OneCell cells all
    one all lawful = one_cell (may page) cells (λ l m ok low. (nodes l m ok low).1) all lawful

    -- a layout belongs to a key, whose handle is the number of a cell
    inside : (all : List Mark) → Lawful (may page) all → (canonical : Handle) (cell segment : ℕ) → Stands cells all cell (LayoutSegment canonical segment) → canonical.0 < cells
    inside all lawful canonical cell segment s =
        let r = (nodes all (mark cell (word_of (LayoutSegment canonical segment)) s.2.0) (lawful.0 (mark cell (word_of (LayoutSegment canonical segment)) s.2.0) s.2.1) s.0).0 in
        let e = same_node r.0 (LayoutSegment canonical segment) r.2 s.1 (sym r.1) in
        let n = subst (Names cells all) e r.3 in
        spells_inside cells all canonical.0 n.0 n.1

    -- a node that each cell was seen set to another is in none
    in_none : (seen all : List Mark) (word : ℕ) → Lawful (may page) all → Within seen all → Before cells seen word cells → InNoCell cells all word
    in_none seen all word lawful within before m has low is =
        let o = (nodes all m (lawful.0 m has) low).1 in
        let b = before o.0 o.1 in
        let same : m ≡ b.0 = lawful.1 m b.0 has (within b.0 b.1) (o.2 ∙ (ap (λ (x : ℕ). probe cells x o.0) is ∙ sym b.2)) in
        b.3 (ap (λ (x : Mark). x.word) (sym same) ∙ is)

    absent_in : (seen : List Mark) (word : ℕ) → (all : List Mark) → Lawful (may page) all → Within seen all → Absent (may page) cells seen word → (more : List Mark) × Lawful (may page) more × Within seen more × InNoCell cells more word
    absent_in seen word all lawful within (inl a) = (a.0, a.1, a.2, a.3)
    absent_in seen word all lawful within (inr b) = (all, lawful, within, in_none seen all word lawful within b)

    module _ (v : View P) (paged : v.page ≡ Some page) (canonical : Handle) (sig : SigId) where
      ends_at : (all : List Mark) (slot : ℕ) → Lawful (may page) all → Within v.seen all → slot < 2048 → OthersBefore cells v.seen canonical sig slot → IsFree cells all canonical slot → NoSlotFound (may page) cells v.seen canonical sig
      ends_at all slot lawful within low before free = inl (
        all,
        lawful,
        within,
        no_slot cells all lawful.1 (λ m has there. rules all m (lawful.0 m has) there) (one all lawful) v.seen canonical sig slot within before free,
        (slot, low, before, free),
      )

      -- the handle is no cell's
      pub ends_outside : Known may v → cells ≤ canonical.0 → NoSlotFound (may page) cells v.seen canonical sig
      ends_outside known out = let all = known.sound.0 in let lawful = known.sound.1.0 page paged in
          ends_at all 0 lawful known.sound.1.1 (omega arith) (λ i low. absurd (omega arith))
          (λ cell s. let low = inside all lawful canonical cell (0 / 32) s in absurd (omega arith))

      -- a segment stands in no cell
      pub ends_absent : Known may v → (segment : ℕ) → segment < 64 → OthersBefore cells v.seen canonical sig (32 * segment) → Absent (may page) cells v.seen (word_of (LayoutSegment canonical segment)) → NoSlotFound (may page) cells v.seen canonical sig
      ends_absent known segment low before absent =
          let a = absent_in v.seen (word_of (LayoutSegment canonical segment)) known.sound.0 (known.sound.1.0 page paged) known.sound.1.1 absent in
          let at : 32 * segment / 32 ≡ segment = omega arith in
          ends_at a.0 (32 * segment) a.1 a.2 (omega arith) before
          (λ cell s. absurd (a.3 (mark cell (word_of (LayoutSegment canonical (32 * segment / 32))) s.2.0) s.2.1 s.0 (ap (λ (x : ℕ). word_of (LayoutSegment canonical x)) at)))

      -- a word of a segment's row is not set
      pub ends_free : (segment cell w : ℕ) → segment < 64 → w < 32 → Stands cells v.seen cell (LayoutSegment canonical segment) → OthersBefore cells v.seen canonical sig (32 * segment) → RowOthers cells v.seen cell sig w → Vacant may v (row_place cells cell w)
          → NoSlotFound (may page) cells v.seen canonical sig
      ends_free segment cell w low few stands before others vacant =
          let all = vacant.0 in let lawful = vacant.1.0 page paged in let within = vacant.1.1 in
          let row : (32 * segment + w) / 32 ≡ segment = omega arith in
          let at : w ≡ (32 * segment + w) % 32 = omega arith in
          let here = stands_on cells v.seen all within cell (LayoutSegment canonical segment) stands in
          ends_at all (32 * segment + w) lawful within (omega arith) (others_here cells v.seen canonical segment cell stands sig w (omega arith) before others)
          (λ c s.
          let t = subst (λ (x : ℕ). Stands cells all c (LayoutSegment canonical x)) row s in
          let same : cell ≡ c = ap (λ (m : Mark). m.place)
          (one all lawful (mark cell (word_of (LayoutSegment canonical segment)) here.2.0) (mark c (word_of (LayoutSegment canonical segment)) t.2.0) here.2.1 t.2.1 here.0 t.0 refl) in
          subst (λ (x : ℕ × ℕ). Unset all (row_place cells x.0 x.1)) (λ i. (same i, at i)) vacant.2)

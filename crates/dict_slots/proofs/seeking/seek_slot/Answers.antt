use Rattle.std.proofs.Common.{rules, ◌≡◌, ◌*◌, ◌≤◌, ap, ◌∙◌, subst, sym, arith}
use Rattle.word_board.specs.Boards.{view_of, page_of}
use Rattle.word_board.specs.Views.{Known}
use Rattle.word_board.specs.declared.view.View.{View}
use Rattle.word_board.proofs.Growing.{grown_on}
use Rattle.node_set.specs.Keys.{Stands, stands_on}
use Rattle.node_set.specs.declared.node.Node.TheVariants.{LayoutSegment}
use Rattle.dict_slots.specs.Slots.{others_on}
use Rattle.dict_slots.proofs.Rowing.{slot_here, segment_others}
use Rattle.dict_slots.proofs.Searching.{ends_outside, ends_absent, ends_free}
use Rattle.dict_slots.proofs.seeking.seek_slot.Goals as goal

pub returns-then-canonical-cells-clause-none : goal.returns-then-canonical-cells-clause-none
returns-then-canonical-cells-clause-none g c = let page = page_of c.args.board.now in let cells = g.P.Page.cell_count page in let same = c.recall.ensures.own.1 in
    let e : c.cells.result ≡ cells = c.cells.ensures.0 ∙ ap g.P.Page.cell_count c.page.ensures in let out = c.if-canonical-cells.true in
    ends_outside g.P.Meaning.may page cells (λ all m may low. g.met.P.Nodes.node_rule page all m may low) (λ all m may there. g.met.P.Slots.slot_rule page all m may there) (view_of c.recall.new.seat)
    (ap (λ (u : View g.row.P.Denot). u.page) same ∙ c.requires.own.1) c.args.canonical c.args.sig (subst (λ (u : View g.row.P.Denot). Known g.P.Meaning.may u) (sym same) c.recall.ensures.known) (omega arith)

pub returns-in_err-cell-clause-none : goal.returns-in_err-cell-clause-none
returns-in_err-cell-clause-none g c = let page = page_of c.args.board.now in let cells = g.P.Page.cell_count page in let w = view_of c.seek.new.seat in let s = c.in_err-cell.ensures in
    rw c.from_residual.ensures
    (ends_absent g.P.Meaning.may page cells (λ all m may low. g.met.P.Nodes.node_rule page all m may low) (λ all m may there. g.met.P.Slots.slot_rule page all m may there) w s.own.1.1 c.args.canonical c.args.sig s.known
    c.loop-segment.segment c.loop-segment-test.true
    (others_on cells (view_of c.loop-segment.seat).seen w.seen s.view.0.0 c.args.canonical c.args.sig (32 * c.loop-segment.segment) c.loop-segment.invariant.others) s.none)

pub returns-in-Found-clause-slot : goal.returns-in-Found-clause-slot
returns-in-Found-clause-slot g c = let page = page_of c.args.board.now in let cells = g.P.Page.cell_count page in let v = view_of c.seek.new.seat in let w = view_of c.seek_row.new.seat in
    let e : c.cells.result ≡ cells = c.cells.ensures.0 ∙ ap g.P.Page.cell_count c.page.ensures in let few : cells ≤ 262144 = g.P.Page.few page in let in_cells = c.if-canonical-cells.false in let low = c.loop-segment-test.true in
    let told = c.in_ok-cell.ensures.cell in let ends = c.in-Found.ensures.ends in let below = ends.0 in
    let stands : Stands cells v.seen c.in_ok-cell.cell.0 (LayoutSegment c.args.canonical c.loop-segment.segment) = (told.0, (omega arith, omega arith), told.1) in (
      omega arith,
      slot_here cells w.seen c.args.canonical c.loop-segment.segment c.in_ok-cell.cell.0
          (stands_on cells v.seen w.seen c.in-Found.ensures.view.0.0 c.in_ok-cell.cell.0 (LayoutSegment c.args.canonical c.loop-segment.segment) stands) c.in-Found.word c.args.sig ends.0 ends.2,
    )

pub returns-in-Free-clause-none : goal.returns-in-Free-clause-none
returns-in-Free-clause-none g c = let page = page_of c.args.board.now in let cells = g.P.Page.cell_count page in let u = view_of c.loop-segment.seat in let v = view_of c.seek.new.seat in let w = view_of c.seek_row.new.seat in
    let e : c.cells.result ≡ cells = c.cells.ensures.0 ∙ ap g.P.Page.cell_count c.page.ensures in let few : cells ≤ 262144 = g.P.Page.few page in let in_cells = c.if-canonical-cells.false in let low = c.loop-segment-test.true in
    let told = c.in_ok-cell.ensures.cell in let s = c.in-Free.ensures in let on = s.view.0.0 in
    let stands : Stands cells v.seen c.in_ok-cell.cell.0 (LayoutSegment c.args.canonical c.loop-segment.segment) = (told.0, (omega arith, omega arith), told.1) in
    ends_free g.P.Meaning.may page cells (λ all m may below. g.met.P.Nodes.node_rule page all m may below) (λ all m may there. g.met.P.Slots.slot_rule page all m may there) w s.own.1.1 c.args.canonical c.args.sig
    c.loop-segment.segment c.in_ok-cell.cell.0 c.in-Free.field-0 low s.ends.0 (stands_on cells v.seen w.seen on c.in_ok-cell.cell.0 (LayoutSegment c.args.canonical c.loop-segment.segment) stands)
    (others_on cells u.seen w.seen (λ m h. on m (c.in_ok-cell.ensures.view.0.0 m h)) c.args.canonical c.args.sig (32 * c.loop-segment.segment) c.loop-segment.invariant.others) s.ends.1 s.ends.2

pub loop-segment-preserved : goal.loop-segment-preserved
loop-segment-preserved g c = let page = page_of c.args.board.now in let cells = g.P.Page.cell_count page in let u = view_of c.loop-segment.seat in let v = view_of c.seek.new.seat in let w = view_of c.seek_row.new.seat in
    let e : c.cells.result ≡ cells = c.cells.ensures.0 ∙ ap g.P.Page.cell_count c.page.ensures in let few : cells ≤ 262144 = g.P.Page.few page in let in_cells = c.if-canonical-cells.false in let low = c.loop-segment-test.true in
    let i = c.loop-segment.invariant in let told = c.in_ok-cell.ensures.cell in let s = c.in-Others.ensures in let on = s.view.0.0 in let q = c.in_ok-cell.ensures.view in
    let stands : Stands cells v.seen c.in_ok-cell.cell.0 (LayoutSegment c.args.canonical c.loop-segment.segment) = (told.0, (omega arith, omega arith), told.1) in
    record {
      own = search rules;
      grown = grown_on (view_of c.args.seat.now) v w (grown_on (view_of c.args.seat.now) u v i.grown q.0) s.view.0;
      known = λ pos. s.known;
      kept = s.view.1 ∙ (q.1 ∙ i.kept);
      others = segment_others cells u.seen w.seen c.args.canonical c.loop-segment.segment c.in_ok-cell.cell.0 c.args.sig (λ m h. on m (q.0.0 m h))
          (stands_on cells v.seen w.seen on c.in_ok-cell.cell.0 (LayoutSegment c.args.canonical c.loop-segment.segment) stands) i.others s.ends;
    }

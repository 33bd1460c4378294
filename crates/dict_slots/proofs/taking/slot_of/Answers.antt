use Rattle.std.proofs.Common.{rules, ◌+◌, ◌*◌, arith}
use Rattle.std.proofs.lemmas.Result.{err_from_is_err_and}
use Rattle.word_board.specs.Boards.{view_of, page_of}
use Rattle.word_board.specs.Views.{number_of}
use Rattle.word_board.proofs.Growing.{grown_on}
use Rattle.node_set.specs.Keys.{stands_on}
use Rattle.node_set.specs.declared.node.Node.TheVariants.{LayoutSegment}
use Rattle.dict_slots.specs.Slots.{others_on}
use Rattle.dict_slots.proofs.Rowing.{slot_here, segment_others}
use Rattle.dict_slots.proofs.Kept.{same_number, may_take, keeps_same, segments_next, slot_next}
use Rattle.dict_slots.proofs.taking.slot_of.Goals as goal

pub returns-in_err-cell-clause-full : goal.returns-in_err-cell-clause-full
returns-in_err-cell-clause-full g c = let cells = g.P.Page.cell_count (page_of c.args.board.now) in let u = view_of c.loop-segment.seat in let w = view_of c.put.new.seat in let i = c.loop-segment.invariant in let s = c.in_err-cell.ensures in
    let p = err_from_is_err_and c.from_residual.result c.from_residual.ensures.1 in
    rw p.1 (
      c.loop-segment.segment,
      c.loop-segment-test.true,
      others_on cells u.seen w.seen s.view.0 c.args.canonical c.args.sig (32 * c.loop-segment.segment) i.others,
      s.full.0,
      keeps_same cells c.args.canonical (view_of c.args.seat.now) u w c.loop-segment.segment s.full.1 i.kept,
    )

pub take_row-requires-clause-may : goal.take_row-requires-clause-may
take_row-requires-clause-may g c = let page = page_of c.args.board.now in let cells = g.P.Page.cell_count page in let o = view_of c.args.seat.now in let u = view_of c.loop-segment.seat in let v = view_of c.put.new.seat in
    let i = c.loop-segment.invariant in let s = c.in_ok-cell.ensures in let low = c.loop-segment-test.true in
    let grown = grown_on o u v i.grown s.view in
    let node = c.requires.segments u.seen c.loop-segment.segment i.grown.0 low i.others in
    may_take (g.P.Meaning.may page) cells o.seen v.seen c.args.canonical c.args.sig (number_of o) (number_of v) c.loop-segment.segment c.in_ok-cell.cell.0 c.requires.slot (same_number o v grown) grown.0 low (s.cell.0, node.0, s.cell.1)
    (others_on cells u.seen v.seen s.view.0 c.args.canonical c.args.sig (32 * c.loop-segment.segment) i.others)

pub returns-in-Some-clause-slot : goal.returns-in-Some-clause-slot
returns-in-Some-clause-slot g c = let page = page_of c.args.board.now in let cells = g.P.Page.cell_count page in let o = view_of c.args.seat.now in let u = view_of c.loop-segment.seat in let v = view_of c.put.new.seat in let w = view_of c.take_row.new.seat in
    let i = c.loop-segment.invariant in let s = c.in_ok-cell.ensures in let low = c.loop-segment-test.true in let t = c.in-Some.ensures in let below = t.found.0 in
    let node = c.requires.segments u.seen c.loop-segment.segment i.grown.0 low i.others in
    let stands = stands_on cells v.seen w.seen t.view.0 c.in_ok-cell.cell.0 (LayoutSegment c.args.canonical c.loop-segment.segment) (s.cell.0, node.0, s.cell.1) in (
      omega arith,
      slot_here cells w.seen c.args.canonical c.loop-segment.segment c.in_ok-cell.cell.0 stands c.in-Some.word c.args.sig t.found.0 t.found.1,
      slot_next cells c.args.canonical o v w c.args.sig c.in_ok-cell.cell.0 c.loop-segment.segment c.in-Some.word (grown_on o u v i.grown s.view) t.found.0 stands
          (segments_next cells c.args.canonical o u v c.in_ok-cell.cell.0 c.loop-segment.segment i.grown s.cell.0 i.kept s.kept) t.found.2,
    )

pub loop-segment-preserved : goal.loop-segment-preserved
loop-segment-preserved g c = let page = page_of c.args.board.now in let cells = g.P.Page.cell_count page in let o = view_of c.args.seat.now in let u = view_of c.loop-segment.seat in let v = view_of c.put.new.seat in let w = view_of c.take_row.new.seat in
    let i = c.loop-segment.invariant in let s = c.in_ok-cell.ensures in let low = c.loop-segment-test.true in let t = c.in_default.ensures in
    let node = c.requires.segments u.seen c.loop-segment.segment i.grown.0 low i.others in
    let stands = stands_on cells v.seen w.seen t.view.0 c.in_ok-cell.cell.0 (LayoutSegment c.args.canonical c.loop-segment.segment) (s.cell.0, node.0, s.cell.1) in
    record {
      own = search rules;
      grown = grown_on o v w (grown_on o u v i.grown s.view) t.view;
      known = λ pos. t.known;
      kept = keeps_same cells c.args.canonical o v w (c.loop-segment.segment + 1) t.none.1 (segments_next cells c.args.canonical o u v c.in_ok-cell.cell.0 c.loop-segment.segment i.grown s.cell.0 i.kept s.kept);
      others = segment_others cells u.seen w.seen c.args.canonical c.loop-segment.segment c.in_ok-cell.cell.0 c.args.sig (λ m h. t.view.0 m (s.view.0 m h)) stands i.others t.none.0;
    }

use Rattle.std.proofs.Common.{◌≡◌, ◌+◌, ◌/◌, ◌%◌, ◌<◌, ◌≤◌, arith}
use Rattle.word_board.specs.Marks.{mark}
use Rattle.word_board.specs.Views.{number_of}
use Rattle.word_board.specs.Places.{row_place}
use Rattle.word_board.specs.Boards.{view_of, page_of}
use Rattle.word_board.proofs.Growing.{sees, sets}
use Rattle.node_set.specs.Keys.{stands_on}
use Rattle.node_set.specs.declared.node.Node.TheVariants.{DictionarySegment}
use Rattle.dict_slots.proofs.Rowing.{set_here}
use Rattle.dict_slots.proofs.Kept.{kept_at}
use Rattle.dict_slots.proofs.Seen.{seen_handle, seen_filled}
use Rattle.dict_slots.proofs.dictionary.fill.Goals as goal

pub returns-then-old-eq0-clause-view : goal.returns-then-old-eq0-clause-view
returns-then-old-eq0-clause-view g c = let v = view_of c.args.seat.now in
    (sets v (view_of c.set-old.new.seat) (mark c.row_place-place.result (c.args.handle.0 + 1) (number_of v)) (c.set-old.ensures.set c.if-old-eq0.true)).1

pub returns-then-old-eq0-clause-filled : goal.returns-then-old-eq0-clause-filled
returns-then-old-eq0-clause-filled g c = let v = view_of c.args.seat.now in let w = view_of c.set-old.new.seat in let word = c.args.handle.0 + 1 in let e = c.row_place-place.ensures.place in
    let s = sets v w (mark c.row_place-place.result word (number_of v)) (c.set-old.ensures.set c.if-old-eq0.true) in
    let at = row_place (g.P.Page.cell_count (page_of c.args.board.now)) c.args.cell.0 (c.args.slot % 32) in
    (set_here w.seen c.row_place-place.result at word (number_of v) e s.0, kept_at v.kept w.kept c.row_place-place.result at word (number_of v) e s.2)

pub handle_of-requires : goal.handle_of-requires
handle_of-requires g c = let page = page_of c.args.board.now in let cells = g.P.Page.cell_count page in let v = view_of c.args.seat.now in let w = view_of c.set-old.new.seat in
    let t = c.set-old.ensures.seen c.if-old-eq0.false in let q = c.requires.segment in
    let s = sees v w (mark c.row_place-place.result c.set-old.result t.0) t.1 in
    let r = seen_handle g.P.Meaning.may page cells (λ all m may inside. g.met.P.Slots.slot_rule page all m may inside) w c.set-old.ensures.own.1.1 c.set-old.ensures.known q.0 (c.args.slot / 32) c.args.cell.0 (c.args.slot % 32)
    c.row_place-place.result c.set-old.result t.0 (omega arith) (stands_on cells v.seen w.seen s.1.0 c.args.cell.0 (DictionarySegment q.0 (c.args.slot / 32)) q.1) c.row_place-place.ensures.place s.0 in
    let few : cells ≤ 262144 = g.P.Page.few page in let inside : r.0.0 < cells = r.1 in let is : c.set-old.result ≡ r.0.0 + 1 = r.2 in
    (omega arith, omega arith)

pub returns-clause-view : goal.returns-clause-view
returns-clause-view g c = let t = c.set-old.ensures.seen c.if-old-eq0.false in
    let s = sees (view_of c.args.seat.now) (view_of c.set-old.new.seat) (mark c.row_place-place.result c.set-old.result t.0) t.1 in
    s.1

pub returns-clause-stood : goal.returns-clause-stood
returns-clause-stood g c = let page = page_of c.args.board.now in let cells = g.P.Page.cell_count page in let v = view_of c.args.seat.now in let w = view_of c.set-old.new.seat in
    let t = c.set-old.ensures.seen c.if-old-eq0.false in let q = c.requires.segment in
    let s = sees v w (mark c.row_place-place.result c.set-old.result t.0) t.1 in
    let r = seen_filled g.P.Meaning.may page cells (λ all m may inside. g.met.P.Slots.slot_rule page all m may inside) w c.set-old.ensures.own.1.1 c.set-old.ensures.known q.0 (c.args.slot / 32) c.args.cell.0 (c.args.slot % 32)
    c.row_place-place.result c.set-old.result t.0 (omega arith) (stands_on cells v.seen w.seen s.1.0 c.args.cell.0 (DictionarySegment q.0 (c.args.slot / 32)) q.1) c.row_place-place.ensures.place s.0 c.handle_of.result c.handle_of.ensures in
    (r.0, r.1, s.2)

use Rattle.std.proofs.Common.{◌≡◌, ◌+◌, ◌/◌, ◌%◌, ◌<◌, ◌≤◌, arith}
use Rattle.word_board.specs.Marks.{mark}
use Rattle.word_board.specs.Boards.{view_of, page_of}
use Rattle.word_board.proofs.Growing.{sees}
use Rattle.node_set.specs.Keys.{stands_on}
use Rattle.node_set.specs.declared.node.Node.TheVariants.{DictionarySegment}
use Rattle.dict_slots.proofs.Seen.{seen_handle, seen_filled}
use Rattle.dict_slots.proofs.dictionary.read.Goals as goal

pub handle_of-requires : goal.handle_of-requires
handle_of-requires g c = let page = page_of c.args.board.now in let cells = g.P.Page.cell_count page in let v = view_of c.args.seat.now in let w = view_of c.look-word.new.seat in
    let t = c.look-word.ensures.seen c.if-word-eq0.false in let q = c.requires.segment in
    let s = sees v w (mark c.row_place-place.result c.look-word.result t.0) t.1 in
    let r = seen_handle g.P.Meaning.may page cells (λ all m may inside. g.met.P.Slots.slot_rule page all m may inside) w c.look-word.ensures.own.1.1 c.look-word.ensures.known q.0 (c.args.slot / 32) c.args.cell.0 (c.args.slot % 32)
    c.row_place-place.result c.look-word.result t.0 (omega arith) (stands_on cells v.seen w.seen s.1.0 c.args.cell.0 (DictionarySegment q.0 (c.args.slot / 32)) q.1) c.row_place-place.ensures.place s.0 in
    let few : cells ≤ 262144 = g.P.Page.few page in let inside : r.0.0 < cells = r.1 in let is : c.look-word.result ≡ r.0.0 + 1 = r.2 in
    (omega arith, omega arith)

pub returns-clause-view : goal.returns-clause-view
returns-clause-view g c = let t = c.look-word.ensures.seen c.if-word-eq0.false in
    let s = sees (view_of c.args.seat.now) (view_of c.look-word.new.seat) (mark c.row_place-place.result c.look-word.result t.0) t.1 in
    (s.1, s.2)

pub returns-clause-filled : goal.returns-clause-filled
returns-clause-filled g c = let page = page_of c.args.board.now in let cells = g.P.Page.cell_count page in let v = view_of c.args.seat.now in let w = view_of c.look-word.new.seat in
    let t = c.look-word.ensures.seen c.if-word-eq0.false in let q = c.requires.segment in
    let s = sees v w (mark c.row_place-place.result c.look-word.result t.0) t.1 in
    seen_filled g.P.Meaning.may page cells (λ all m may inside. g.met.P.Slots.slot_rule page all m may inside) w c.look-word.ensures.own.1.1 c.look-word.ensures.known q.0 (c.args.slot / 32) c.args.cell.0 (c.args.slot % 32)
    c.row_place-place.result c.look-word.result t.0 (omega arith) (stands_on cells v.seen w.seen s.1.0 c.args.cell.0 (DictionarySegment q.0 (c.args.slot / 32)) q.1) c.row_place-place.ensures.place s.0 c.handle_of.result c.handle_of.ensures

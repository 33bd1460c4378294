use Rattle.std.proofs.Common.{ℕ, ◌/◌, sym, ◌∙◌, subst}
use Rattle.word_board.specs.Marks.{mark, Has, Within}
use Rattle.word_board.specs.Boards.{view_of, page_of}
use Rattle.node_set.specs.Keys.{spells_on}
use Rattle.type_record.specs.Words.{word_of}
use Rattle.key_rows.specs.Rows.{row_of_on, word_may_on}
use Rattle.key_rows.proofs.Pages.{HasRows, reach, word_one}
use Rattle.key_rows.proofs.filling.fill.Goals as goal

pub unreachable-requires : goal.unreachable-requires
unreachable-requires g c = let page = page_of c.args.board.now in let cells = g.P.Page.cell_count page in let facts = g.P.Rows.facts page in
    let may = g.P.Meaning.may in
    let rules : HasRows (may page) cells facts (g.P.Rows.granted page) = record { nodes = g.met.P.Nodes.node_rule page; rows = g.met.P.Rows.row_rule page } in
    let old = (view_of c.args.seat.now).seen in let s = c.settle-stood.ensures in let m = c.requires.may in
    let h = c.args.key.0 in let w = c.args.word in
    let r = reach may page (view_of c.settle-stood.new.seat) s.own.1.1 s.known in
    let on : Within old r.0 = λ x has. r.2 x (s.view.0 x has) in
    let has = subst (λ (place : ℕ). Has r.0 (mark place c.settle-stood.result s.word.1.0)) c.row_place-place.ensures.place (r.2 (mark c.row_place-place.result c.settle-stood.result s.word.1.0) s.word.1.1) in
    c.if-stood-wanted.true (word_one rules r.0 r.1 h w c.settle-stood.result (word_of c.args.entry) m.0 (spells_on cells old r.0 on h m.0 m.1) (word_may_on cells old r.0 on facts h m.0 w (word_of c.args.entry) m.3)
    (c.args.cell.0, row_of_on cells old r.0 on h (w / 32) c.args.cell.0 c.requires.row, (s.word.1.0, has)) ∙ sym c.word-wanted.ensures.0)

use Rattle.std.proofs.Common.{ℕ, ◌/◌, sym, ◌∙◌, subst, arith}
use mathlib.Core.Logic.{dite}
use native.Mathlib.Decide.{ℕ_discrete}
use Rattle.word_board.specs.Marks.{mark, Has}
use Rattle.word_board.specs.Boards.{view_of, page_of}
use Rattle.word_board.proofs.Growing.{sees, grown_on}
use Rattle.key_rows.specs.Rows.{row_of_on}
use Rattle.key_rows.proofs.Pages.{HasRows, reach, not_vacant, is_read, known_entry}
use Rattle.key_rows.proofs.reading.read_entry.Goals as goal

pub unreachable-requires : goal.unreachable-requires
unreachable-requires g c = let page = page_of c.args.board.now in let cells = g.P.Page.cell_count page in let facts = g.P.Rows.facts page in
    let may = g.P.Meaning.may in
    let rules : HasRows (may page) cells facts (g.P.Rows.granted page) = record { nodes = g.met.P.Nodes.node_rule page; rows = g.met.P.Rows.row_rule page } in
    let old = (view_of c.args.seat.now).seen in let mid = view_of c.seek_row-cell.new.seat in let new = view_of c.look-stood.new.seat in
    let h = c.args.key.0 in let w = c.args.word in let at = c.seek_row-cell.result.0 in let stood = c.look-stood.result in
    let f = c.seek_row-cell.ensures in let s = c.look-stood.ensures in let place = c.row_place-place.ensures.place in
    let k = c.requires.known in
    dite (ℕ_discrete stood 0)
    (λ zero. let free = (s.none zero).1 in
    not_vacant rules old mid.seen f.view.0.0 free.0 (free.1.0 page f.own.1.1) free.1.1 h w at k.0 k.1 k.2 c.requires.other k.3 f.row
    (λ x has is. free.2 x has (is ∙ sym place)))
    (λ some. let t = s.seen some in let saw = sees mid new (mark c.row_place-place.result stood t.0) t.1 in
    let r = reach may page new s.own.1.1 s.known in
    is_read rules (g.P.Rows.closed page) old new.seen (λ x has. saw.1.0 x (f.view.0.0 x has)) r h w at (row_of_on cells mid.seen new.seen saw.1.0 h (w / 32) at f.row) stood t.0
    (subst (λ (p : ℕ). Has new.seen (mark p stood t.0)) place saw.0) k.0 k.1 (λ all lawful on. (k.2.1 all lawful on).0) k.3 c.in-None.ensures)

pub returns-clause-view : goal.returns-clause-view
returns-clause-view g c = let read = c.in-Some.ensures.0.1 in
    let old = view_of c.args.seat.now in let mid = view_of c.seek_row-cell.new.seat in let new = view_of c.look-stood.new.seat in
    let f = c.seek_row-cell.ensures in let t = c.look-stood.ensures.seen (λ zero. absurd (omega arith)) in
    let saw = sees mid new (mark c.row_place-place.result c.look-stood.result t.0) t.1 in
    (grown_on old mid new f.view.0 saw.1, saw.2 ∙ f.view.1)

pub returns-clause-told : goal.returns-clause-told
returns-clause-told g c = let page = page_of c.args.board.now in let cells = g.P.Page.cell_count page in let facts = g.P.Rows.facts page in
    let may = g.P.Meaning.may in
    let rules : HasRows (may page) cells facts (g.P.Rows.granted page) = record { nodes = g.met.P.Nodes.node_rule page; rows = g.met.P.Rows.row_rule page } in
    let read = c.in-Some.ensures.0.1 in
    let old = (view_of c.args.seat.now).seen in let mid = view_of c.seek_row-cell.new.seat in let new = view_of c.look-stood.new.seat in
    let h = c.args.key.0 in let w = c.args.word in let at = c.seek_row-cell.result.0 in let stood = c.look-stood.result in
    let f = c.seek_row-cell.ensures in let s = c.look-stood.ensures in
    let t = s.seen (λ zero. absurd (omega arith)) in let saw = sees mid new (mark c.row_place-place.result stood t.0) t.1 in
    let k = c.requires.known in
    λ j e names tells. known_entry rules (g.P.Rows.closed page) old new.seen (λ x has. saw.1.0 x (f.view.0.0 x has)) (reach may page new s.own.1.1 s.known) h w at (row_of_on cells mid.seen new.seen saw.1.0 h (w / 32) at f.row) stood t.0
    (subst (λ (p : ℕ). Has new.seen (mark p stood t.0)) c.row_place-place.ensures.place saw.0) c.in-Some.entry c.in-Some.ensures k.0 j e k.2 names tells

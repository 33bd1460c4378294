use Rattle.std.proofs.Common.{refl, arith}
use Rattle.word_board.specs.Views.{number_of}
use Rattle.word_board.specs.Boards.{view_of, page_of}
use Rattle.node_set.specs.Keys.{spells_on}
use Rattle.node_set.specs.declared.node.Node.TheVariants.{Row}
use Rattle.node_set.proofs.Probes.{node_may}
use Rattle.node_set.proofs.Spelling.{spells_inside}
use Rattle.key_rows.proofs.Cells.{row_of_cell}
use Rattle.key_rows.proofs.filling.put_row.Goals as goal

pub returns-then-row-eq0-clause-row : goal.returns-then-row-eq0-clause-row
returns-then-row-eq0-clause-row g c = let m = c.requires.may in let first = c.if-row-eq0.true in
    (spells_inside (g.P.Page.cell_count (page_of c.args.board.now)) (view_of c.args.seat.now).seen c.args.key.0 m.0 m.1, (λ e. refl), λ further. absurd (omega arith))

pub put-requires-clause-may : goal.put-requires-clause-may
put-requires-clause-may g c = let page = page_of c.args.board.now in let cells = g.P.Page.cell_count page in let v = view_of c.args.seat.now in
    let m = c.requires.may in let further = c.if-row-eq0.false in
    let inside = spells_inside cells v.seen c.args.key.0 m.0 m.1 in
    let few = g.P.Page.few page in
    let n = Row c.args.key c.args.row in
    node_may (g.P.Meaning.may page) cells v.seen n (number_of v) (omega arith, omega arith) (m.0, m.1, omega arith)
    (λ more x on low is by rule. g.met.P.Rows.may_further page more x c.args.key c.args.row m.0 low rule is (spells_on cells v.seen more on c.args.key.0 m.0 m.1) m.3 (g.P.Rows.granted_stays page v.seen more m.0 on m.2))

pub returns-clause-row : goal.returns-clause-row
returns-clause-row g c = let page = page_of c.args.board.now in let cells = g.P.Page.cell_count page in let v = view_of c.args.seat.now in
    let m = c.requires.may in let further = c.if-row-eq0.false in
    let inside = spells_inside cells v.seen c.args.key.0 m.0 m.1 in
    let few = g.P.Page.few page in
    row_of_cell cells (view_of c.put.new.seat).seen c.args.key.0 c.args.row c.put.result (omega arith) (omega arith) (omega arith) c.put.ensures.cell

use Rattle.std.proofs.Common.{ℕ, refl, subst, arith}
use Rattle.word_board.specs.Boards.{view_of, page_of}
use Rattle.node_set.specs.Nodes.{word_of}
use Rattle.node_set.specs.Probing.{Absent}
use Rattle.node_set.specs.declared.node.Node.TheVariants.{Row}
use Rattle.key_rows.specs.Rows.{IsRowOf}
use Rattle.key_rows.proofs.Cells.{row_here}
use Rattle.key_rows.proofs.Pages.{HasRows, reach, row_narrow, row_not_absent}
use Rattle.key_rows.proofs.reading.seek_row.Goals as goal

pub returns-then-row-eq0-clause-row : goal.returns-then-row-eq0-clause-row
returns-then-row-eq0-clause-row g c = let first = c.if-row-eq0.true in (c.requires.known.2.0, (λ e. refl), λ further. absurd (omega arith))

pub unreachable-requires : goal.unreachable-requires
unreachable-requires g c = let page = page_of c.args.board.now in let cells = g.P.Page.cell_count page in let facts = g.P.Rows.facts page in
    let may = g.P.Meaning.may in
    let rules : HasRows (may page) cells facts (g.P.Rows.granted page) = record { nodes = g.met.P.Nodes.node_rule page; rows = g.met.P.Rows.row_rule page } in
    let k = c.requires.known in let further = c.if-row-eq0.false in let v = view_of c.args.seat.now in
    c.in_default.ensures (row_narrow rules v.seen (reach may page v c.requires.own.1 c.recall.ensures.known) c.args.key.0 c.args.word k.0 k.1 k.2 c.requires.other k.3 (omega arith))

pub unreachable-requires-in-None : goal.unreachable-requires-in-None
unreachable-requires-in-None g c = let page = page_of c.args.board.now in let cells = g.P.Page.cell_count page in let facts = g.P.Rows.facts page in
    let may = g.P.Meaning.may in
    let rules : HasRows (may page) cells facts (g.P.Rows.granted page) = record { nodes = g.met.P.Nodes.node_rule page; rows = g.met.P.Rows.row_rule page } in
    let k = c.requires.known in let s = c.in-None.ensures in let further = c.if-row-eq0.false in let is = c.in-Ok.ensures.1 in
    let new = (view_of c.seek.new.seat).seen in
    row_not_absent rules (view_of c.args.seat.now).seen new s.view.0.0 (reach may page (view_of c.seek.new.seat) s.own.1.1 s.known)
    c.args.key.0 c.args.word k.0 k.1 k.2 c.requires.other k.3 (omega arith) (subst (λ (row : ℕ). Absent (may page) cells new (word_of (Row c.args.key row))) is s.none)

pub returns-clause-row : goal.returns-clause-row
returns-clause-row g c = let cells = g.P.Page.cell_count (page_of c.args.board.now) in
    let few = g.P.Page.few (page_of c.args.board.now) in let inside = c.requires.known.2.0 in let further = c.if-row-eq0.false in let is = c.in-Ok.ensures in
    let new = (view_of c.seek.new.seat).seen in
    subst (λ (row : ℕ). IsRowOf cells new c.args.key.0 row c.in-Some.cell.0) is.1
    (row_here cells new c.args.key.0 c.in-Ok.row c.in-Some.cell.0 (omega arith) (omega arith) (omega arith) c.in-Some.ensures.cell)

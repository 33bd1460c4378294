use Rattle.std.proofs.Common.{rules, ℕ, ap, sym, ◌∙◌, subst, arith}
use Rattle.word_board.specs.Views.{number_of}
use Rattle.word_board.specs.Boards.{view_of, page_of}
use Rattle.node_set.specs.Probing.{MayBut}
use Rattle.word_board.proofs.Growing.{grown_on}
use Rattle.node_set.proofs.Probes.{may_settle, before_next, all_before}
use Rattle.node_set.proofs.probing.put.Goals as goal

pub settle-requires-clause-may : goal.settle-requires-clause-may
settle-requires-clause-may g c = let i = c.loop-k.invariant in let may = g.P.Meaning.may (page_of c.args.board.now) in let cells = g.P.Page.cell_count (page_of c.args.board.now) in
    may_settle may cells c.cells-cells.result c.word-word.result c.loop-k.k c.probed-place.result (view_of c.args.seat.now) (view_of c.loop-k.seat)
    (subst (λ (w : ℕ). MayBut may cells (view_of c.args.seat.now).seen w (number_of (view_of c.args.seat.now))) (sym c.word-word.ensures.0) c.requires.may)
    (c.cells-cells.ensures.0 ∙ ap g.P.Page.cell_count c.page.ensures) i.grown c.loop-k-test.true i.before c.probed-place.ensures.0

pub loop-k-preserved : goal.loop-k-preserved
loop-k-preserved g c = let i = c.loop-k.invariant in let s = c.settle.ensures in record {
  own = search rules;
  grown = grown_on (view_of c.args.seat.now) (view_of c.loop-k.seat) (view_of c.settle.new.seat) i.grown s.view;
  known = λ low. s.known;
  kept = s.other c.if-settle-word.false ∙ i.kept;
  before = before_next c.cells-cells.result c.word-word.result c.loop-k.k c.probed-place.result c.settle.result s.word.1.0 (view_of c.loop-k.seat) (view_of c.settle.new.seat) s.view i.before s.word.1.1 c.probed-place.ensures.0 c.if-settle-word.false;
}

pub returns-clause-full : goal.returns-clause-full
returns-clause-full g c = let i = c.loop-k.invariant in let a = c.loop-k-test.false in let b = c.loop-k.auto.k-end in
    (all_before c.cells-cells.result (g.P.Page.cell_count (page_of c.args.board.now)) c.loop-k.k (view_of c.loop-k.seat).seen c.word-word.result _ (c.cells-cells.ensures.0 ∙ ap g.P.Page.cell_count c.page.ensures) (omega arith) c.word-word.ensures.0 i.before, i.kept)

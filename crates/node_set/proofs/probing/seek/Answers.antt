use Rattle.std.proofs.Common.{rules, ◌≡◌, ℕ, ap, ◌∙◌, subst, arith, inr}
use Rattle.word_board.specs.Boards.{view_of, page_of}
use Rattle.word_board.specs.Marks.{mark, Has}
use Rattle.node_set.specs.Probing.{Absent}
use Rattle.word_board.proofs.Growing.{sees, grown_on}
use Rattle.node_set.proofs.Probes.{before_next, absent_here, all_before}
use Rattle.node_set.proofs.probing.seek.Goals as goal

pub returns-then-found-word-clause-view : goal.returns-then-found-word-clause-view
returns-then-found-word-clause-view g c = let i = c.loop-k.invariant in let f = c.if-found-word.true in let pos = c.word-word.ensures.1 in
    let t = c.look-found.ensures.seen (λ z. absurd (omega arith)) in
    let s = sees (view_of c.loop-k.seat) (view_of c.look-found.new.seat) (mark c.probed-place.result c.look-found.result t.0) t.1 in
    (grown_on (view_of c.args.seat.now) (view_of c.loop-k.seat) (view_of c.look-found.new.seat) i.grown s.1, s.2 ∙ i.kept)

pub returns-then-found-word-clause-cell : goal.returns-then-found-word-clause-cell
returns-then-found-word-clause-cell g c = let f = c.if-found-word.true in let pos = c.word-word.ensures.1 in
    let t = c.look-found.ensures.seen (λ z. absurd (omega arith)) in
    let s = sees (view_of c.loop-k.seat) (view_of c.look-found.new.seat) (mark c.probed-place.result c.look-found.result t.0) t.1 in
    let e : c.cells-cells.result ≡ g.P.Page.cell_count (page_of c.args.board.now) = c.cells-cells.ensures.0 ∙ ap g.P.Page.cell_count c.page.ensures in
    let low = c.probed-place.ensures.1 in
    (omega arith, (t.0, subst (λ (w : ℕ). Has (view_of c.look-found.new.seat).seen (mark c.probed-place.result w t.0)) (f ∙ c.word-word.ensures.0) s.0))

pub returns-then-found-eq0-clause-none : goal.returns-then-found-eq0-clause-none
returns-then-found-eq0-clause-none g c = let i = c.loop-k.invariant in let n = c.look-found.ensures.none c.if-found-eq0.true in
    let page = page_of c.args.board.now in let cells = g.P.Page.cell_count page in
    subst (λ (w : ℕ). Absent (g.P.Meaning.may page) cells (view_of c.look-found.new.seat).seen w) c.word-word.ensures.0
    (absent_here g.P.Meaning.may page cells c.cells-cells.result c.word-word.result c.loop-k.k c.probed-place.result (λ all m may low. (g.met.P.Nodes.node_rule page all m may low).1)
    (view_of c.loop-k.seat) (view_of c.look-found.new.seat) i.own.1.1 (c.cells-cells.ensures.0 ∙ ap g.P.Page.cell_count c.page.ensures) c.loop-k-test.true c.probed-place.ensures.0 i.before n.0 n.1)

pub loop-k-preserved : goal.loop-k-preserved
loop-k-preserved g c = let i = c.loop-k.invariant in let z = c.if-found-eq0.false in
    let t = c.look-found.ensures.seen z in
    let s = sees (view_of c.loop-k.seat) (view_of c.look-found.new.seat) (mark c.probed-place.result c.look-found.result t.0) t.1 in
    record {
      own = search rules;
      grown = grown_on (view_of c.args.seat.now) (view_of c.loop-k.seat) (view_of c.look-found.new.seat) i.grown s.1;
      known = λ low. c.look-found.ensures.known;
      kept = s.2 ∙ i.kept;
      before = before_next c.cells-cells.result c.word-word.result c.loop-k.k c.probed-place.result c.look-found.result t.0 (view_of c.loop-k.seat) (view_of c.look-found.new.seat) s.1 i.before s.0 c.probed-place.ensures.0 c.if-found-word.false;
    }

pub returns-clause-none : goal.returns-clause-none
returns-clause-none g c = let i = c.loop-k.invariant in let a = c.loop-k-test.false in let b = c.loop-k.auto.k-end in
    inr (all_before c.cells-cells.result (g.P.Page.cell_count (page_of c.args.board.now)) c.loop-k.k (view_of c.loop-k.seat).seen c.word-word.result _ (c.cells-cells.ensures.0 ∙ ap g.P.Page.cell_count c.page.ensures) (omega arith) c.word-word.ensures.0 i.before)

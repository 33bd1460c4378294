use Rattle.std.proofs.Common.{rules, ◌≤◌, List, length, ap, sym, subst, arith, length-append, [], ◌∷◌}
use Rattle.clr_base.specs.declared.ids.Handle.{Handle}
use Rattle.word_board.specs.Boards.{view_of, page_of}
use Rattle.node_set.specs.Keys.{Key, Spells}
use Rattle.key_publish.specs.Plans.{Denotes}
use Rattle.key_publish.proofs.Moving.{moved_on}
use Rattle.key_publish.proofs.Parts.{spelled_next}
use Rattle.key_publish.proofs.nodes.put_parts.Goals as goal

pub loop-init : goal.loop-init
loop-init g c = search rules

pub returns-in_err-handle-clause-moved : goal.returns-in_err-handle-clause-moved
returns-in_err-handle-clause-moved g c = moved_on (g.P.Page.cell_count (page_of c.args.board.now)) (view_of c.args.seat.now) (view_of c.loop.seat) (view_of c.put_part.new.seat) c.loop.invariant.moved c.put_part.ensures.moved

pub loop-preserved : goal.loop-preserved
loop-preserved g c = let i = c.loop.invariant in let cells = g.P.Page.cell_count (page_of c.args.board.now) in
    let h = c.in_ok-handle.handle in
    let old = (view_of c.loop.seat).seen in let new = (view_of c.put_part.new.seat).seen in
    let items = c.push_reserved.ensures.items in
    let value = c.as_slice.ensures.value in
    record {
      own = search rules;
      moved = moved_on cells (view_of c.args.seat.now) (view_of c.loop.seat) (view_of c.put_part.new.seat) i.moved c.put_part.ensures.moved;
      long = let a = ap length items in let b = length-append c.loop.handles.items (h ∷ []) in let d = i.long in omega arith;
      room = subst (λ cap. length c.args.parts.now ≤ cap) (sym c.push_reserved.ensures.capacity) i.room;
      spelled = spelled_next cells old new c.args.parts.now c.loop.handles.items c.push_reserved.new.self.items h c.put_part.ensures.moved.0.0 i.spelled
          (subst (λ (hs : List Handle). (k : Key) → Denotes c.args.parts.now (length hs) k → Spells cells new h.0 k) value c.in_ok-handle.ensures.spelled) items;
    }

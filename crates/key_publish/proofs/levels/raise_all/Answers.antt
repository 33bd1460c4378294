use Rattle.std.proofs.Common.{rules, refl}
use Rattle.std.proofs.lemmas.Option.{slice_get_read}
use Rattle.word_board.specs.Boards.{view_of, page_of}
use Rattle.key_publish.proofs.Moving.{moved_on}
use Rattle.key_publish.proofs.Walks.{can_raise_on, raised_next}
use Rattle.key_publish.proofs.levels.raise_all.Goals as goal

pub raise_one-requires-clause-may : goal.raise_one-requires-clause-may
raise_one-requires-clause-may g c = let page = page_of c.args.board.now in let cells = g.P.Page.cell_count page in let i = c.loop-member.invariant in
    let first = (view_of c.args.seat.now).seen in let here = (view_of c.loop-member.seat).seen in let on = i.moved.0.0 in
    can_raise_on cells first here on (g.P.Rows.facts page) (g.P.Rows.granted page first) (g.P.Rows.granted page here) (λ k. g.P.Rows.granted_stays page first here k on) c.args.handles.now c.args.level c.member-item.result
    (c.requires.may c.loop-member.member-index c.member-item.result (slice_get_read c.args.members.now _ c.loop-member.member-index c.member-item.result refl c.loop-member-test.true c.member-item.is))

pub loop-member-preserved : goal.loop-member-preserved
loop-member-preserved g c = let page = page_of c.args.board.now in let cells = g.P.Page.cell_count page in let i = c.loop-member.invariant in
    let first = view_of c.args.seat.now in let old = view_of c.loop-member.seat in let new = view_of c.raise_one.new.seat in
    record {
      own = search rules;
      moved = moved_on cells first old new i.moved c.raise_one.ensures.moved;
      set = raised_next cells old.seen new.seen c.raise_one.ensures.moved.0.0 c.args.handles.now c.args.members.now c.loop-member.member-index c.args.level c.member-item.result
          (slice_get_read c.args.members.now _ c.loop-member.member-index c.member-item.result refl c.loop-member-test.true c.member-item.is) c.raise_one.ensures.set i.set;
    }

use Rattle.std.proofs.Common.{rules, ◌≡◌, ℕ, slice_get, Some, refl, arith}
use Rattle.std.proofs.lemmas.Option.{slice_get_read, slice_get_within}
use Rattle.word_board.specs.Boards.{view_of, page_of}
use Rattle.key_publish.specs.declared.plan.Member.{Member}
use Rattle.key_publish.specs.Plans.{Shown}
use Rattle.key_publish.specs.Published.{IsRowLeft}
use Rattle.key_publish.proofs.Results.{err_is}
use Rattle.key_publish.proofs.Moving.{moved_on}
use Rattle.key_publish.proofs.Parts.{shown_on}
use Rattle.key_publish.proofs.Entries.{member_fits_on}
use Rattle.key_publish.proofs.Walks.{recorded_next, has_record_as}
use Rattle.key_publish.proofs.records.set_records.Goals as goal

pub set_record-requires-clause-fits : goal.set_record-requires-clause-fits
set_record-requires-clause-fits g c = let page = page_of c.args.board.now in let cells = g.P.Page.cell_count page in let i = c.loop-member.invariant in
    let first = (view_of c.args.seat.now).seen in let here = (view_of c.loop-member.seat).seen in let on = i.moved.0.0 in let handles = c.args.handles.now in
    let f = c.requires.fits c.loop-member.member-index c.member-item.result (slice_get_read c.args.members.now _ c.loop-member.member-index c.member-item.result refl c.loop-member-test.true c.member-item.is) in (
      f.0,
      g.P.Rows.granted_stays page first here f.0 on f.1,
      member_fits_on (Shown cells first handles) (Shown cells here handles) (shown_on cells first here on handles) (g.P.Rows.facts page) c.member-item.result f.0 f.2,
    )

pub returns-in_err-set_record-clause-moved : goal.returns-in_err-set_record-clause-moved
returns-in_err-set_record-clause-moved g c = moved_on (g.P.Page.cell_count (page_of c.args.board.now)) (view_of c.args.seat.now) (view_of c.loop-member.seat) (view_of c.set_record.new.seat) c.loop-member.invariant.moved c.set_record.ensures.moved

pub returns-in_err-set_record-clause-left : goal.returns-in_err-set_record-clause-left
returns-in_err-set_record-clause-left g c = let cells = g.P.Page.cell_count (page_of c.args.board.now) in let seen = (view_of c.set_record.new.seat).seen in
    let members = c.args.members.now in let handles = c.args.handles.now in
    err_is c.from_residual.result ((j : ℕ) × (m : Member) × (slice_get members j ≡ Some m) × IsRowLeft cells seen handles m)
    (c.loop-member.member-index, c.member-item.result, slice_get_read members _ c.loop-member.member-index c.member-item.result refl c.loop-member-test.true c.member-item.is, c.in_err-set_record.ensures.left)

pub loop-member-preserved : goal.loop-member-preserved
loop-member-preserved g c = let page = page_of c.args.board.now in let cells = g.P.Page.cell_count page in let i = c.loop-member.invariant in let handles = c.args.handles.now in
    let first = view_of c.args.seat.now in let old = view_of c.loop-member.seat in let new = view_of c.set_record.new.seat in let facts = g.P.Rows.facts page in
    record {
      own = search rules;
      moved = moved_on cells first old new i.moved c.set_record.ensures.moved;
      set = recorded_next cells old.seen new.seen c.set_record.ensures.moved.0.0 facts (Shown cells first.seen handles) handles c.args.members.now c.loop-member.member-index c.member-item.result
          (slice_get_read c.args.members.now _ c.loop-member.member-index c.member-item.result refl c.loop-member-test.true c.member-item.is)
          (has_record_as cells new.seen facts (Shown cells old.seen handles) (Shown cells first.seen handles) (shown_on cells first.seen old.seen i.moved.0.0 handles) handles c.member-item.result c.in_ok-set_record.ensures.set) i.set;
    }

pub returns-clause-set : goal.returns-clause-set
returns-clause-set g c = let end = c.loop-member-test.false in λ j m at. c.loop-member.invariant.set j m (let low = slice_get_within c.args.members.now j m at in omega arith) at

use Rattle.std.proofs.Common.{rules, ◌≡◌, ℕ, ◌+◌, ◌-◌, ◌/◌, arith, get_or, subst}
use Rattle.std.proofs.lemmas.Option.{get_or_from_slice_get}
use Rattle.clr_base.specs.declared.ids.Handle.{Handle}
use Rattle.word_board.specs.Boards.{view_of, page_of}
use Rattle.node_set.specs.declared.node.Node.TheVariants.{Row}
use Rattle.key_rows.specs.Rows.{IsRowOf, row_of_on}
use Rattle.key_publish.specs.Plans.{Shown}
use Rattle.key_publish.specs.Published.{HasRecordTo, IsRowLeft, InEachCellOther}
use Rattle.key_publish.proofs.Results.{err_is}
use Rattle.key_publish.proofs.Moving.{moved_on}
use Rattle.key_publish.proofs.Parts.{shown_on}
use Rattle.key_publish.proofs.Entries.{member_fits_on, shown_at, row_inside, record_next}
use Rattle.key_publish.proofs.records.set_record.Goals as goal

pub next_cell-requires-clause-may : goal.next_cell-requires-clause-may
next_cell-requires-clause-may g c = let page = page_of c.args.board.now in let f = c.requires.fits in let cells = g.P.Page.cell_count page in let handles = c.args.handles.now in
    let first = (view_of c.args.seat.now).seen in let old = (view_of c.loop-word.seat).seen in let on = c.loop-word.invariant.moved.0.0 in
    let end = c.len-word-end.ensures in let low = c.loop-word-test.true in (
      f.0,
      shown_at cells old handles c.args.member.now.part f.0 _ (shown_on cells first old on handles c.args.member.now.part f.0 f.2.0),
      g.P.Rows.granted_stays page first old f.0 on f.1,
      row_inside (Shown cells first handles) (g.P.Rows.facts page) c.args.member.now f.0 f.2 c.loop-word.word (omega arith),
    )

pub returns-in_err-cell-clause-moved : goal.returns-in_err-cell-clause-moved
returns-in_err-cell-clause-moved g c = moved_on (g.P.Page.cell_count (page_of c.args.board.now)) (view_of c.args.seat.now) (view_of c.loop-word.seat) (view_of c.next_cell.new.seat) c.loop-word.invariant.moved c.next_cell.ensures.moved

pub returns-in_err-cell-clause-left : goal.returns-in_err-cell-clause-left
returns-in_err-cell-clause-left g c = let cells = g.P.Page.cell_count (page_of c.args.board.now) in let seen = (view_of c.next_cell.new.seat).seen in let handles = c.args.handles.now in
    let h = c.requires.fits.2.0 in let w = c.loop-word.word in let left = c.in_err-cell.ensures.left in
    let end = c.len-word-end.ensures in let low = c.loop-word-test.true in
    err_is c.from_residual.result (IsRowLeft cells seen handles c.args.member.now)
    (h.0, w / 32, h.1, left.0, omega arith, subst (λ (x : Handle). InEachCellOther cells seen (Row x (w / 32))) (get_or_from_slice_get handles c.args.member.now.part h.0 _ h.1) left.1)

pub set_word-requires-clause-row : goal.set_word-requires-clause-row
set_word-requires-clause-row g c = let cells = g.P.Page.cell_count (page_of c.args.board.now) in let seen = (view_of c.next_cell.new.seat).seen in
    λ h at. subst (λ (x : Handle). IsRowOf cells seen x.0 (c.loop-word.word / 32) c.in_ok-cell.cell.0) (get_or_from_slice_get c.args.handles.now c.args.member.now.part h _ at) c.in_ok-cell.ensures.row

pub set_word-requires-clause-fits : goal.set_word-requires-clause-fits
set_word-requires-clause-fits g c = let page = page_of c.args.board.now in let f = c.requires.fits in let cells = g.P.Page.cell_count page in let handles = c.args.handles.now in
    let first = view_of c.args.seat.now in let mid = view_of c.next_cell.new.seat in
    let on = (moved_on cells first (view_of c.loop-word.seat) mid c.loop-word.invariant.moved c.next_cell.ensures.moved).0.0 in (
      f.0,
      g.P.Rows.granted_stays page first.seen mid.seen f.0 on f.1,
      member_fits_on (Shown cells first.seen handles) (Shown cells mid.seen handles) (shown_on cells first.seen mid.seen on handles) (g.P.Rows.facts page) c.args.member.now f.0 f.2,
    )

pub loop-word-preserved : goal.loop-word-preserved
loop-word-preserved g c = let i = c.loop-word.invariant in let page = page_of c.args.board.now in let cells = g.P.Page.cell_count page in let handles = c.args.handles.now in
    let first = view_of c.args.seat.now in let old = view_of c.loop-word.seat in let mid = view_of c.next_cell.new.seat in let new = view_of c.set_word.new.seat in
    let step = moved_on cells old mid new c.next_cell.ensures.moved c.set_word.ensures.moved in
    let moved = moved_on cells first old new i.moved step in
    let key : Handle = get_or handles c.args.member.now.part (record { 0 = 0 }) in
    let w = c.loop-word.word in let one : w ≡ w + 1 - 1 = omega arith in
    record {
      own = search rules;
      moved = moved;
      row = λ some. row_of_on cells mid.seen new.seen c.set_word.ensures.moved.0.0 key.0 ((w + 1 - 1) / 32) c.in_ok-cell.cell.0 (subst (λ (n : ℕ). IsRowOf cells mid.seen key.0 (n / 32) c.in_ok-cell.cell.0) one c.in_ok-cell.ensures.row);
      set = record_next cells (g.P.Page.few page) old.seen new.seen (g.P.Rows.facts page) (Shown cells first.seen handles) handles c.args.member.now step.0.0
          (shown_on cells first.seen new.seen moved.0.0 handles) w c.set_word.ensures.set i.set;
    }

pub returns-clause-set : goal.returns-clause-set
returns-clause-set g c = let page = page_of c.args.board.now in let cells = g.P.Page.cell_count page in
    let end = c.loop-word-test.false in let n = c.len-word-end.ensures in let a = c.loop-word.auto.word-end in
    subst (λ (n : ℕ). HasRecordTo cells (view_of c.loop-word.seat).seen (g.P.Rows.facts page) (Shown cells (view_of c.args.seat.now).seen c.args.handles.now) n c.args.handles.now c.args.member.now)
    (omega arith) c.loop-word.invariant.set

use Rattle.std.proofs.Common.{length, get_or, refl, arith}
use Rattle.std.proofs.lemmas.Option.{slice_get_read, slice_get_within, slice_get-get_or}
use Rattle.word_board.specs.Boards.{view_of, page_of}
use Rattle.key_publish.proofs.Moving.{moved_on}
use Rattle.key_publish.proofs.Walks.{raised_on}
use Rattle.key_publish.proofs.Stages.{laid_on, asked_inside, within_on, can_walk, can_top, published}
use Rattle.key_publish.proofs.publishing.raise.Goals as goal

pub raise_all-requires-clause-may : goal.raise_all-requires-clause-may
raise_all-requires-clause-may g c = let page = page_of c.args.board.now in let cells = g.P.Page.cell_count page in let facts = g.P.Rows.facts page in
    let p = c.requires.plan in let parts = c.args.parts.now in let members = c.args.members.now in let handles = c.args.handles.now in let closed = g.P.Rows.closed page in
    let s0 = (view_of c.args.seat.now).seen in
    can_walk cells s0 facts parts handles members c.requires.laid closed c.args.asked p.0 p.1 (g.P.Rows.granted page s0) p.2 1 (omega arith) (λ e. absurd (omega arith))

pub raise_all-requires-2-clause-may : goal.raise_all-requires-2-clause-may
raise_all-requires-2-clause-may g c = let page = page_of c.args.board.now in let cells = g.P.Page.cell_count page in let facts = g.P.Rows.facts page in
    let p = c.requires.plan in let parts = c.args.parts.now in let members = c.args.members.now in let handles = c.args.handles.now in let closed = g.P.Rows.closed page in
    let s0 = (view_of c.args.seat.now).seen in let s1 = (view_of c.raise_all.new.seat).seen in let on1 = c.raise_all.ensures.moved.0.0 in
    can_walk cells s1 facts parts handles members (laid_on cells s0 s1 on1 facts parts handles members c.requires.laid) closed c.args.asked p.0 p.1 (g.P.Rows.granted page s1) (λ k there. g.P.Rows.granted_stays page s0 s1 k on1 (p.2 k there)) 2 (omega arith) (λ e. absurd (omega arith))

pub raise_all-requires-3-clause-may : goal.raise_all-requires-3-clause-may
raise_all-requires-3-clause-may g c = let page = page_of c.args.board.now in let cells = g.P.Page.cell_count page in let facts = g.P.Rows.facts page in
    let p = c.requires.plan in let parts = c.args.parts.now in let members = c.args.members.now in let handles = c.args.handles.now in let closed = g.P.Rows.closed page in
    let s0 = (view_of c.args.seat.now).seen in let s1 = (view_of c.raise_all.new.seat).seen in let s2 = (view_of c.raise_all-2.new.seat).seen in
    let on2 = within_on s0 s1 s2 c.raise_all.ensures.moved.0.0 c.raise_all-2.ensures.moved.0.0 in
    can_walk cells s2 facts parts handles members (laid_on cells s0 s2 on2 facts parts handles members c.requires.laid) closed c.args.asked p.0 p.1 (g.P.Rows.granted page s2) (λ k there. g.P.Rows.granted_stays page s0 s2 k on2 (p.2 k there)) 3 (omega arith) (λ e. c.raise_all-2.ensures.set)

pub bounds-members-asked : goal.bounds-members-asked
bounds-members-asked g c = let f = c.requires.plan.1.asked_fits in slice_get_within c.args.members.now c.args.asked f.0 f.1

pub raise_one-requires-clause-may : goal.raise_one-requires-clause-may
raise_one-requires-clause-may g c = let page = page_of c.args.board.now in let cells = g.P.Page.cell_count page in let facts = g.P.Rows.facts page in
    let p = c.requires.plan in let parts = c.args.parts.now in let members = c.args.members.now in let handles = c.args.handles.now in let closed = g.P.Rows.closed page in
    let s0 = (view_of c.args.seat.now).seen in let s1 = (view_of c.raise_all.new.seat).seen in let s2 = (view_of c.raise_all-2.new.seat).seen in let s3 = (view_of c.raise_all-3.new.seat).seen in
    let on3 = within_on s0 s2 s3 (within_on s0 s1 s2 c.raise_all.ensures.moved.0.0 c.raise_all-2.ensures.moved.0.0) c.raise_all-3.ensures.moved.0.0 in
    can_top cells s3 facts parts handles members (laid_on cells s0 s3 on3 facts parts handles members c.requires.laid) closed c.args.asked p.0 p.1 (g.P.Rows.granted page s3) (λ k there. g.P.Rows.granted_stays page s0 s3 k on3 (p.2 k there)) c.raise_all-3.ensures.set
    c.index-members-asked.result (slice_get_read members _ c.args.asked c.index-members-asked.result refl (slice_get_within members c.args.asked p.1.asked_fits.0 p.1.asked_fits.1) c.index-members-asked.is)

pub bounds-handles-member : goal.bounds-handles-member
bounds-handles-member g c = let page = page_of c.args.board.now in let cells = g.P.Page.cell_count page in let facts = g.P.Rows.facts page in
    let p = c.requires.plan in let parts = c.args.parts.now in let members = c.args.members.now in let handles = c.args.handles.now in
    let m = c.index-members-asked.result in
    asked_inside cells (view_of c.args.seat.now).seen facts parts handles members c.requires.laid c.args.asked p.0 p.1 m
    (slice_get_read members _ c.args.asked m refl (slice_get_within members c.args.asked p.1.asked_fits.0 p.1.asked_fits.1) c.index-members-asked.is)

pub returns-clause-moved : goal.returns-clause-moved
returns-clause-moved g c = let cells = g.P.Page.cell_count (page_of c.args.board.now) in
    let v0 = view_of c.args.seat.now in let v1 = view_of c.raise_all.new.seat in let v2 = view_of c.raise_all-2.new.seat in let v3 = view_of c.raise_all-3.new.seat in let v4 = view_of c.raise_one.new.seat in
    moved_on cells v0 v1 v4 c.raise_all.ensures.moved (moved_on cells v1 v2 v4 c.raise_all-2.ensures.moved (moved_on cells v2 v3 v4 c.raise_all-3.ensures.moved c.raise_one.ensures.moved))

pub returns-clause-published : goal.returns-clause-published
returns-clause-published g c = let page = page_of c.args.board.now in let cells = g.P.Page.cell_count page in let facts = g.P.Rows.facts page in
    let p = c.requires.plan in let parts = c.args.parts.now in let members = c.args.members.now in let handles = c.args.handles.now in let closed = g.P.Rows.closed page in
    let s0 = (view_of c.args.seat.now).seen in let s1 = (view_of c.raise_all.new.seat).seen in let s2 = (view_of c.raise_all-2.new.seat).seen in let s3 = (view_of c.raise_all-3.new.seat).seen in let s4 = (view_of c.raise_one.new.seat).seen in
    let near2 = c.raise_all-2.ensures.moved.0.0 in let near3 = c.raise_all-3.ensures.moved.0.0 in let near4 = c.raise_one.ensures.moved.0.0 in
    let from2 = within_on s2 s3 s4 near3 near4 in let from1 = within_on s1 s2 s4 near2 from2 in let from0 = within_on s0 s1 s4 c.raise_all.ensures.moved.0.0 from1 in
    let m = c.index-members-asked.result in
    let at = slice_get_read members _ c.args.asked m refl (slice_get_within members c.args.asked p.1.asked_fits.0 p.1.asked_fits.1) c.index-members-asked.is in
    let inside = asked_inside cells s0 facts parts handles members c.requires.laid c.args.asked p.0 p.1 m at in
    λ root plan. published cells s4 facts parts handles members (laid_on cells s0 s4 from0 facts parts handles members c.requires.laid) closed c.args.asked root plan
    (raised_on cells s1 s4 from1 handles members (length members) 1 c.raise_all.ensures.set)
    (raised_on cells s2 s4 from2 handles members (length members) 2 c.raise_all-2.ensures.set)
    (raised_on cells s3 s4 near4 handles members (length members) 3 c.raise_all-3.ensures.set) m at c.raise_one.ensures.set
    (get_or handles m.part _) (slice_get-get_or handles m.part _ inside)

use Rattle.std.proofs.Common.{◌≡◌, ℕ, List, length, slice_get, Some, sym, ap, ◌∙◌, subst}
use Rattle.clr_base.specs.declared.ids.Handle.{Handle}
use Rattle.word_board.specs.Boards.{view_of, page_of}
use Rattle.node_set.specs.Keys.{Key}
use Rattle.key_publish.specs.declared.plan.Member.{Member}
use Rattle.key_publish.specs.Plans.{Spelled, PlanFits, Shown}
use Rattle.key_publish.specs.Published.{Laid, HasRecord, IsRowLeft, IsLeft}
use Rattle.key_publish.proofs.Results.{ok_on, err_on}
use Rattle.key_publish.proofs.Moving.{moved_on}
use Rattle.key_publish.proofs.Parts.{spelled_on}
use Rattle.key_publish.proofs.Stages.{laid_first, plan_shown, row_left}
use Rattle.key_publish.proofs.laying.lay.Goals as goal

pub set_records-requires-clause-fits : goal.set_records-requires-clause-fits
set_records-requires-clause-fits g c = let page = page_of c.args.board.now in let cells = g.P.Page.cell_count page in let facts = g.P.Rows.facts page in
    let p = c.requires.plan in let s0 = (view_of c.args.seat.now).seen in let s1 = (view_of c.put_parts.new.seat).seen in let handles = c.as_slice.result.now in
    let long : length handles ≡ length c.args.parts.now = ap length c.as_slice.ensures.value ∙ c.in_ok-put_parts.ensures.long in
    plan_shown cells s1 facts (g.P.Rows.granted page s1) c.args.parts.now c.args.members.now c.args.asked handles long
    (subst (λ (hs : List Handle). Spelled cells s1 c.args.parts.now hs) (sym c.as_slice.ensures.value) c.in_ok-put_parts.ensures.spelled)
    p.0 p.1 (λ k there. g.P.Rows.granted_stays page s0 s1 k c.put_parts.ensures.moved.0.0 (p.2 k there))

pub returns-clause-moved : goal.returns-clause-moved
returns-clause-moved g c = moved_on (g.P.Page.cell_count (page_of c.args.board.now)) (view_of c.args.seat.now) (view_of c.put_parts.new.seat) (view_of c.set_records.new.seat) c.put_parts.ensures.moved c.set_records.ensures.moved

pub returns-clause-laid : goal.returns-clause-laid
returns-clause-laid g c = let page = page_of c.args.board.now in let cells = g.P.Page.cell_count page in let facts = g.P.Rows.facts page in
    let parts = c.args.parts.now in let members = c.args.members.now in let handles = c.as_slice.result.now in let items = c.put_parts.new.handles.items in
    let s1 = (view_of c.put_parts.new.seat).seen in let s2 = (view_of c.set_records.new.seat).seen in
    ok_on c.set_records.result ((j : ℕ) (m : Member) → slice_get members j ≡ Some m → HasRecord cells s2 facts (Shown cells s1 handles) handles m) (Laid cells s2 facts parts items members)
    (λ set. subst (λ (hs : List Handle). Laid cells s2 facts parts hs members) c.as_slice.ensures.value
    (laid_first cells s1 s2 c.set_records.ensures.moved.0.0 facts parts handles items members c.as_slice.ensures.value c.in_ok-put_parts.ensures.long c.in_ok-put_parts.ensures.spelled set))
    c.set_records.ensures.set

pub returns-clause-left : goal.returns-clause-left
returns-clause-left g c = let page = page_of c.args.board.now in let cells = g.P.Page.cell_count page in let facts = g.P.Rows.facts page in
    let parts = c.args.parts.now in let members = c.args.members.now in let handles = c.as_slice.result.now in
    let s1 = (view_of c.put_parts.new.seat).seen in let s2 = (view_of c.set_records.new.seat).seen in
    let long : length handles ≡ length parts = ap length c.as_slice.ensures.value ∙ c.in_ok-put_parts.ensures.long in
    let spelled = spelled_on cells s1 s2 c.set_records.ensures.moved.0.0 parts handles (subst (λ (hs : List Handle). Spelled cells s1 parts hs) (sym c.as_slice.ensures.value) c.in_ok-put_parts.ensures.spelled) in
    err_on c.set_records.result ((j : ℕ) × (m : Member) × (slice_get members j ≡ Some m) × IsRowLeft cells s2 handles m) ((root : Key) → PlanFits facts parts members c.args.asked root → IsLeft cells s2 facts parts root)
    (λ left root plan. row_left cells s2 facts parts handles members long spelled c.args.asked root plan left.0 left.1 left.2 left.3)
    c.set_records.ensures.left

use Rattle.std.proofs.Common.{◌≡◌, ◌∙◌, true, false, sym}
use Rattle.std.specs.Prelude.{◌==◌}
use Rattle.std.proofs.lemmas.Result.{err_from_is_err_and}
use Rattle.cil_code.proofs.Steps.{lists_first, instr_fails, instr_listed, all_listed}
use Rattle.cil_code.proofs.reading.read_list.Goals as goal

pub loop-alloc-init : goal.loop-alloc-init
loop-alloc-init c = rw c.new-list.ensures (lists_first c.args.code.now)

pub returns-in_err-instr : goal.returns-in_err-instr
returns-in_err-instr c =
    let p = err_from_is_err_and c.from_residual.result c.from_residual.ensures.1 in
    let more : (c.loop-alloc.code.left == 0) ≡ false = sym c.is_at_end.ensures ∙ c.loop-alloc-test.true in
    rw (p.1, p.2) (instr_fails _ _ _ c.in_err-instr.field-0.0 c.loop-alloc.invariant more c.in_err-instr.ensures.instr)

pub loop-alloc-smaller : goal.loop-alloc-smaller
loop-alloc-smaller c = c.in_ok-instr.ensures.left

pub loop-alloc-preserved : goal.loop-alloc-preserved
loop-alloc-preserved c =
    let more : (c.loop-alloc.code.left == 0) ≡ false = sym c.is_at_end.ensures ∙ c.loop-alloc-test.true in
    rw (c.in_ok-push.ensures.ok, c.place-place.ensures.place) (instr_listed _ _ _ _ _ c.loop-alloc.invariant more c.in_ok-instr.ensures.instr c.in_ok-instr.ensures.left)

pub returns : goal.returns
returns c =
    let ended : (c.loop-alloc.code.left == 0) ≡ true = sym c.is_at_end.ensures ∙ c.loop-alloc-test.false in
    all_listed _ _ _ c.loop-alloc.invariant ended

use Rattle.std.proofs.Common.{arith, ℕ, ◌≡◌, ◌∙◌, ap, sym}
use Rattle.std.proofs.lemmas.Result.{err_from_is_err_and}
use Rattle.cil_code.specs.Reading.{fault_at}
use Rattle.cil_code.proofs.Choices.{is_false, is_true}
use Rattle.cil_code.proofs.Steps.{continues_first, coded_fails, targets_fail, instr_found, prefix_alone, prefix_read}
use Rattle.cil_code.proofs.reading.read_instr.Goals as goal

pub loop-prefixes-init : goal.loop-prefixes-init
loop-prefixes-init c = rw c.new-prefixes.ensures (continues_first c.args.code.now c.requires)

pub returns-in_err-coded-clause-instr : goal.returns-in_err-coded-clause-instr
returns-in_err-coded-clause-instr c =
    let p = err_from_is_err_and c.from_residual.result c.from_residual.ensures.1 in
    rw (p.1, p.2) (coded_fails _ _ _ c.in_err-coded.field-0.0 c.loop-prefixes.invariant c.in_err-coded.ensures.coded)

pub returns-in_err-targets-clause-instr : goal.returns-in_err-targets-clause-instr
returns-in_err-targets-clause-instr c =
    let p = err_from_is_err_and c.from_residual-in_err-targets.result c.from_residual-in_err-targets.ensures.1 in
    rw (p.1, p.2) (targets_fail _ _ _ _ _ c.in_err-targets.field-0.0 c.loop-prefixes.invariant c.in_ok-coded.ensures.coded (is_false _ c.if-not-coded.true) c.place-start.result c.place-start.ensures.place c.in_err-targets.ensures.targets)

pub returns-then-not-coded-clause-instr : goal.returns-then-not-coded-clause-instr
returns-then-not-coded-clause-instr c =
    instr_found _ _ _ _ _ _ _ c.loop-prefixes.invariant c.in_ok-coded.ensures.coded (is_false _ c.if-not-coded.true) c.place-start.result c.place-start.ensures.place c.in_ok-targets.ensures.targets

pub returns-then-not-coded-clause-left : goal.returns-then-not-coded-clause-left
returns-then-not-coded-clause-left c =
    omega (arith, c.loop-prefixes.invariant.within, c.in_ok-coded.ensures.left, c.in_ok-targets.ensures.left)

pub returns-then-is_at_end-clause-instr : goal.returns-then-is_at_end-clause-instr
returns-then-is_at_end-clause-instr c =
    let alone : c.fault-alone.result ≡ fault_at c.loop-prefixes.code.place c.loop-prefixes.code =
    c.fault-alone.ensures ∙ ap (λ (n : ℕ). fault_at n c.loop-prefixes.code) c.place-start.ensures.place in
    rw alone (prefix_alone _ _ _ _ _ c.loop-prefixes.invariant c.in_ok-coded.ensures.coded (is_true _ c.if-not-coded.false) (sym c.if-is_at_end.ensures))

pub loop-prefixes-smaller : goal.loop-prefixes-smaller
loop-prefixes-smaller c = c.in_ok-coded.ensures.left

pub loop-prefixes-preserved : goal.loop-prefixes-preserved
loop-prefixes-preserved c =
    rw c.in_ok-push.ensures.ok (prefix_read _ _ _ _ _ c.loop-prefixes.invariant c.in_ok-coded.ensures.coded (is_true _ c.if-not-coded.false) (sym c.if-is_at_end.ensures) c.in_ok-coded.ensures.left)

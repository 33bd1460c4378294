use Rattle.std.proofs.Common.{◌≡◌, ◌+◌, ◌-◌, ◌<◌, get_or, length, sym, ◌∙◌, ap, arith}
use Rattle.std.proofs.lemmas.List.{length-set}
use Rattle.cli_tables.specs.TextFaults.{end_at, AreFaultsFrom}
use Rattle.cli_tables.proofs.NextZero.{no_end_past}
use Rattle.cli_tables.proofs.Faults.{one_more, all_known}
use Rattle.cli_tables.proofs.text_faults.fault_at_each.Goals as goal

pub loop-behind-init : goal.loop-behind-init
loop-behind-init c = (sym (no_end_past c.args.heap.now _ (omega arith)), omega (arith, c.in_ok-faults.faults.ok, c.in_ok-faults.ensures.len), λ i d low high. absurd (omega arith))

pub next_zero-zero-requires-clause-behind : goal.next_zero-zero-requires-clause-behind
next_zero-zero-requires-clause-behind c =
    let n = length c.args.heap.now in
    let here : n - c.loop-behind.behind ≡ n - 1 - c.loop-behind.behind + 1 = omega arith in
    c.loop-behind.invariant.0 ∙ ap (end_at c.args.heap.now) here

pub fault_at-requires-clause-known : goal.fault_at-requires-clause-known
fault_at-requires-clause-known c = λ i d low high. ap (λ xs. get_or xs i d) c.deref.ensures.value ∙ c.loop-behind.invariant.2 i d (omega arith) high

pub loop-behind-preserved : goal.loop-behind-preserved
loop-behind-preserved c =
    let heap = c.args.heap.now in
    let n = length heap in
    let b = c.loop-behind.behind in
    let at = n - 1 - b in
    let less : b < n = c.loop-behind-test.true in
    let here : at ≡ n - (b + 1) = omega arith in
    let known : AreFaultsFrom heap (at + 1) c.loop-behind.faults.items = λ i d low high. c.loop-behind.invariant.2 i d (omega arith) high in
    let now = one_more heap at c.loop-behind.faults.items c.fault_at.result (omega arith) c.loop-behind.invariant.1 known c.fault_at.ensures in
    (c.next_zero-zero.ensures ∙ ap (end_at heap) here, length-set c.loop-behind.faults.items at c.fault_at.result ∙ c.loop-behind.invariant.1, λ i d low high. now i d (omega arith) high)

pub returns : goal.returns
returns c =
    let all = c.loop-behind.invariant.2 in
    all_known c.args.heap.now c.loop-behind.faults.items c.loop-behind.invariant.1 (λ i d low high. all i d (omega arith) high)

use Rattle.std.proofs.Common.{◌≡◌, length, Option, Some, None, ap, ◌∙◌, sym, arith}
use Rattle.type_tree.specs.declared.tree.Key.{Key}
use Rattle.type_pool.specs.Keys.{key_at, key_below}
use Rattle.type_pool.specs.declared.key_nodes.KeyNode.{KeyNode}
use Rattle.type_pool.proofs.JobLemmas.{grows_trans}
use Rattle.key_closure.proofs.NodeTurns.{key-grown, key_below-grown}
use Rattle.load_events.specs.declared.load_fault.LoadFault.{LoadFault}
use Rattle.key_verdicts.proofs.Firsts.{below, found, missed}
use Rattle.key_verdicts.proofs.judging.first_refused.Goals as goal

pub local_fault-requires-clause-within : goal.local_fault-requires-clause-within
local_fault-requires-clause-within g c =
    let ts = c.args.pool.now in let was = c.loop-key in let k = c.key-item.result in
    key_below-grown ts was.pool was.invariant.grows k (below c.args.keys.now was.key-index k (omega arith) c.key-item.is (length ts) was.invariant.within).0

pub returns-in-Some-clause-below : goal.returns-in-Some-clause-below
returns-in-Some-clause-below g c =
    let ts = c.args.pool.now in let was = c.loop-key in let k = c.key-item.result in let us = c.local_fault.new.pool in
    let grows = grows_trans ts was.pool us was.invariant.grows c.local_fault.ensures.grows in
    ap (key_below (length us)) c.in_ok-copy_key_node.ensures
    ∙ key_below-grown ts us grows k (below c.args.keys.now was.key-index k (omega arith) c.key-item.is (length ts) was.invariant.within).0

pub returns-in-Some-clause-first : goal.returns-in-Some-clause-first
returns-in-Some-clause-first g c =
    let ts = c.args.pool.now in let was = c.loop-key in let k = c.key-item.result in let us = c.local_fault.new.pool in
    let local = g.L.LocalFaults.local c.args.faults.now c.args.world.now in
    let grows = grows_trans ts was.pool us was.invariant.grows c.local_fault.ensures.grows in
    let low = (below c.args.keys.now was.key-index k (omega arith) c.key-item.is (length ts) was.invariant.within).0 in
    let before = key-grown ts was.pool was.invariant.grows k low in
    let fault : local (key_at ts k) ≡ Some c.in-Some.fault = ap local (sym before) ∙ sym c.in_ok-fault.ensures.is ∙ c.in-Some.is in
    let copied : key_at us c.in_ok-copy_key_node.field-0 ≡ key_at ts k = ap (key_at us) c.in_ok-copy_key_node.ensures ∙ key-grown ts us grows k low in
    ap (λ (x : Key). Some (x, c.in-Some.fault)) copied
    ∙ found c.args.keys.now was.key-index k (omega arith) c.key-item.is ts local was.invariant.left c.in-Some.fault fault

pub loop-key-preserved : goal.loop-key-preserved
loop-key-preserved g c =
    let ts = c.args.pool.now in let was = c.loop-key in let k = c.key-item.result in let us = c.local_fault.new.pool in
    let local = g.L.LocalFaults.local c.args.faults.now c.args.world.now in
    let both = below c.args.keys.now was.key-index k (omega arith) c.key-item.is (length ts) was.invariant.within in
    let before = key-grown ts was.pool was.invariant.grows k both.0 in
    let none : local (key_at ts k) ≡ None = ap local (sym before) ∙ sym c.in_ok-fault.ensures.is ∙ c.in_default.is in
    record {
      grows = grows_trans ts was.pool us was.invariant.grows c.local_fault.ensures.grows;
      right = c.in_ok-fault.ensures.right;
      within = both.1;
      left = missed c.args.keys.now was.key-index k (omega arith) c.key-item.is ts local was.invariant.left none;
    }

use Rattle.std.proofs.Common.{◌≡◌, true, false, slice_index_or, ap, ◌∙◌, sym, arith}
use Rattle.type_tree.specs.declared.tree.Key.{Key}
use Rattle.type_pool.specs.Keys.{key_at}
use Rattle.type_pool.proofs.JobLemmas.{grows_trans}
use Rattle.key_closure.proofs.NodeTurns.{key-grown, key_below-grown}
use Rattle.load_events.specs.declared.load_fault.LoadFault.{LoadFault}
use Rattle.load_events.specs.declared.load_fault.LoadFault.TheVariants.{NotFound}
use Rattle.type_judge.specs.Table.{tells}
use Rattle.type_judge.proofs.Order.{found, missed}
use Rattle.type_judge.proofs.judging.first_fault.Goals as goal

pub has_fault-requires-clause-within : goal.has_fault-requires-clause-within
has_fault-requires-clause-within c = key_below-grown c.args.pool.now c.loop-fault.pool c.loop-fault.invariant.grows c.args.key.now c.requires.within

pub returns-then-branch-clause-first : goal.returns-then-branch-clause-first
returns-then-branch-clause-first c =
    let ts = c.args.pool.now in let was = c.loop-fault in let k = c.args.key.now in
    let h = λ (x : Key) (fault : LoadFault). tells c.args.told.now c.args.world.now x fault in
    let f : LoadFault = slice_index_or c.args.faults.now was.fault-index NotFound in
    let before = key-grown ts was.pool was.invariant.grows k c.requires.within in
    let holds : h (key_at ts k) f ≡ true = ap (λ (x : Key). h x f) (sym before) ∙ (sym c.in_ok-has_fault.ensures.is ∙ c.if-branch.true) in
    found c.args.faults.now was.fault-index NotFound (omega arith) (h (key_at ts k)) was.invariant.left holds

pub loop-fault-preserved : goal.loop-fault-preserved
loop-fault-preserved c =
    let ts = c.args.pool.now in let was = c.loop-fault in let k = c.args.key.now in
    let h = λ (x : Key) (fault : LoadFault). tells c.args.told.now c.args.world.now x fault in
    let f : LoadFault = slice_index_or c.args.faults.now was.fault-index NotFound in
    let before = key-grown ts was.pool was.invariant.grows k c.requires.within in
    let fails : h (key_at ts k) f ≡ false = ap (λ (x : Key). h x f) (sym before) ∙ (sym c.in_ok-has_fault.ensures.is ∙ c.if-branch.false) in
    record {
      grows = grows_trans ts was.pool c.has_fault.new.pool was.invariant.grows c.has_fault.ensures.grows;
      notes = c.in_ok-has_fault.ensures.notes;
      left = missed c.args.faults.now was.fault-index NotFound (omega arith) (h (key_at ts k)) was.invariant.left fails;
    }

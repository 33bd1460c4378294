use Rattle.std.proofs.Common.{arith}
use Rattle.type_tree.specs.declared.definition.Method.{Method}
use Rattle.type_tree.proofs.Bounds.{methods_few}
use Rattle.type_pool.proofs.JobLemmas.{grows_trans}
use Rattle.method_slots.specs.Slots.{run}
use Rattle.method_slots.proofs.VirtualLemmas.{one_more, opens_trans, own-grown, own-one}
use Rattle.method_slots.proofs.virtuals.own_in.Goals as goal

pub overflow_add-first : goal.overflow_add-first
overflow_add-first c = let few = methods_few c.args.world.now c.whole.ensures in omega (arith, few, c.requires.within, c.loop-i-test.true)

pub loop-i-preserved : goal.loop-i-preserved
loop-i-preserved c =
    let k = c.loop-i in
    let w = c.args.world.now in
    let first = c.args.first in
    let m : Method = c.method.result.now in
    let was = k.invariant in
    let made = c.in_ok-own_of.ensures in
    let pool = c.own_of.new.pool in
    let set = c.own_of.new.set in
    let v = c.in_ok-own_of.field-0 in
    let more = one_more w first k.i m c.method.ensures.value in
    let grown = own-grown k.pool pool k.set set made.grows made.set_grows k.done (run w first k.i) was.are in
    rw (c.in_ok-push.ensures.ok, more) (record {
      grows = grows_trans c.args.pool.now k.pool pool was.grows made.grows;
      set_grows = opens_trans c.args.set.now k.set set was.set_grows made.set_grows;
      are = own-one pool set k.done (run w first k.i) v m grown made.named;
    })

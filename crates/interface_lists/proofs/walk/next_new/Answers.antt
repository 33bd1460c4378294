use Rattle.std.proofs.Common.{ap, ◌∙◌, sym, length}
use Rattle.type_pool.specs.Trees.{at}
use Rattle.interface_lists.specs.Lists.{follow}
use Rattle.interface_lists.specs.Walks.{members, stack}
use Rattle.interface_lists.proofs.Follows.{skip_first}
use Rattle.interface_lists.proofs.Ids.{popped_stack, popped_below}
use Rattle.interface_lists.proofs.walk.next_new.Goals as goal

pub loop-id-preserved : goal.loop-id-preserved
loop-id-preserved c =
    let w = c.args.world.now in
    let ts = c.args.pool.now in
    let found = members ts c.args.found.now.keys in
    let old = c.loop-id.todo in
    let new = c.pop.new.self in
    let id = c.in-Some.id in
    let parts = popped_below (length ts) old new id c.in-Some.ensures c.loop-id.invariant.within in
    let top = ap (λ l. follow w l found) (popped_stack ts old new id c.in-Some.ensures) in
    record {
      within = parts.0;
      same = c.loop-id.invariant.same ∙ top ∙ skip_first w (at ts id) (stack ts new) found (sym c.is_new.ensures.test ∙ c.if-is_new.false);
    }

use Rattle.std.proofs.Common.{[], subst, length, ap, ◌∙◌, sym, arith}
use Rattle.type_tree.specs.Subst.{subst_all}
use Rattle.type_pool.specs.Trees.{at}
use Rattle.type_pool.proofs.JobLemmas.{grows_trans}
use Rattle.interface_lists.specs.Lists as spec
use Rattle.interface_lists.specs.Walks.{members, stack, Stacked}
use Rattle.interface_lists.proofs.Follows.{stop_first}
use Rattle.interface_lists.proofs.Ids.{walk_begins, walk_on, one_listed, room_left}
use Rattle.interface_lists.proofs.walk.own_list.Goals as goal

pub loop-id-init : goal.loop-id-init
loop-id-init c =
    let w = c.args.world.now in
    record {
      grows = c.in_ok-push_all.ensures.grows;
      walking = walk_begins w c.args.pool.now c.push_all.new.pool c.push_all.new.todo c.new-found.result.keys c.as_slice.result.now c.args.def.now.interfaces
          (subst (λ old. Stacked c.args.pool.now c.push_all.new.pool old c.push_all.new.todo (subst_all [] [] c.as_slice.result.now)) c.new-todo.ensures c.in_ok-push_all.ensures.stacked) c.new-found.ensures.empty c.as_slice.ensures;
      few = let none = ap length c.new-found.ensures.empty in omega (arith, none);
    }

pub returns-then-not-may_join-clause-list : goal.returns-then-not-may_join-clause-list
returns-then-not-may_join-clause-list c =
    let w = c.args.world.now in
    let ts = c.loop-id.pool in
    let next = c.in-Some.ensures in
    sym c.loop-id.invariant.walking.follows ∙ next.same
    ∙ stop_first w (at ts c.in-Some.id) (stack ts c.next_new.new.todo) (members ts c.loop-id.found.keys) next.fresh (sym c.may_join.ensures ∙ c.if-not-may_join.true)

pub loop-id-preserved : goal.loop-id-preserved
loop-id-preserved c =
    let w = c.args.world.now in
    let k = c.loop-id in
    let id = c.in-Some.id in
    let next = c.in-Some.ensures in
    let p2 = c.push_declared.new.pool in
    let grows = c.in_ok-push_declared.ensures.grows in
    let joins = sym c.may_join.ensures ∙ c.if-not-may_join.false in
    let longer = one_listed k.found.keys c.add.new.list.keys id.0 next.unlisted c.in_ok-add.ensures in
    let room = room_left k.pool k.found.keys (at k.pool id) joins in
    record {
      grows = grows_trans c.args.pool.now k.pool p2 k.invariant.grows grows;
      walking = walk_on w k.pool p2 k.todo c.next_new.new.todo c.push_declared.new.todo k.found.keys c.add.new.list.keys id (spec.own_list w c.args.def.now)
          grows next joins c.in_ok-push_declared.ensures.stacked c.in_ok-add.ensures k.invariant.walking;
      few = omega (arith, longer, room);
    }

pub returns-in_err-push_declared-clause-grows : goal.returns-in_err-push_declared-clause-grows
returns-in_err-push_declared-clause-grows c = grows_trans c.args.pool.now c.loop-id.pool c.push_declared.new.pool c.loop-id.invariant.grows c.in_err-push_declared.ensures.grows

use Rattle.std.proofs.Common.{◌<◌, List, suc, length, drop, drop-cons, get_or, ap, ◌∙◌, sym, add-one, arith}
use Rattle.type_pool.specs.declared.nodes.Id.{Id}
use Rattle.type_pool.specs.Trees.{at_all}
use Rattle.type_pool.proofs.JobLemmas.{below_at, below_next}
use Rattle.interface_lists.specs.Lists.{joined}
use Rattle.interface_lists.specs.Walks.{members}
use Rattle.interface_lists.proofs.Ids.{joins_one}
use Rattle.interface_lists.proofs.lists.add_all.Goals as goal

pub loop-id-preserved : goal.loop-id-preserved
loop-id-preserved c =
    let k = c.loop-id in
    let ts = c.args.pool.now in
    let ids : List Id = c.args.ids.now in
    let d : Id = record { 0 = 0 } in
    let i = k.id-index in
    let inside : i < length ids = omega arith in
    let one = get_or ids i d in
    let rest = at_all ts (drop (suc i) ids) in
    let found = members ts k.list.keys in
    let lt = below_at (length ts) ids i d inside k.invariant.within in
    let joins = joins_one ts c.each_once.ensures k.list.keys c.add.new.list.keys one k.invariant.listed lt c.in_ok-add.ensures in
    record {
      listed = joins.within;
      within = below_next (length ts) ids i d inside k.invariant.within;
      left = rw add-one (ap (λ l. joined l rest) joins.are ∙ sym (ap (λ l. joined found (at_all ts l)) (drop-cons ids i d inside)) ∙ k.invariant.left);
    }

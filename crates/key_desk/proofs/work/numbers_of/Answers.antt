use Rattle.std.proofs.Common.{◌≡◌, ◌∙◌, ◌+◌, Some, List, slice_get, take, refl, arith, subst, sym, ap}
use Rattle.std.proofs.lemmas.Option.{slice_get_read}
use Rattle.type_pool.specs.declared.key_nodes.KeyId.{KeyId}
use Rattle.key_closure.specs.Bounds.{keys_at}
use Rattle.type_tree.specs.declared.tree.Ty.{Ty}
use Rattle.type_pool.specs.Keys.{key_at}
use Rattle.key_desk.specs.Desks.{keys_of, key_with, NameAll}
use Rattle.key_desk.proofs.Keeping.{works_on, names_stay, one_more}
use Rattle.key_desk.proofs.work.numbers_of.Goals as goal

pub returns-in_err-number-clause-works : goal.returns-in_err-number-clause-works
returns-in_err-number-clause-works c = works_on c.args.world.now c.args.work.now c.loop-node.work c.put.new.work c.loop-node.invariant.works c.put.ensures.works

pub returns-in_err-push-clause-works : goal.returns-in_err-push-clause-works
returns-in_err-push-clause-works c = works_on c.args.world.now c.args.work.now c.loop-node.work c.put.new.work c.loop-node.invariant.works c.put.ensures.works

pub loop-node-preserved : goal.loop-node-preserved
loop-node-preserved c =
    let was = c.loop-node in let ts = c.args.work.now.pool in let node = c.in_ok-copy_key_node.field-0 in
    let at : slice_get c.args.nodes.now was.node-index ≡ Some node =
    slice_get_read c.args.nodes.now _ was.node-index c.node-item.result refl (omega arith) c.node-item.is ∙ ap Some (sym c.in_ok-copy_key_node.ensures) in
    let here : key_with (keys_of c.put.new.work) c.in_ok-number.number ≡ Some (key_at ts node) =
    c.in_ok-number.ensures.named ∙ ap (λ (l : List Ty). Some (key_at l node)) was.invariant.pool in record {
      works = works_on c.args.world.now c.args.work.now was.work c.put.new.work was.invariant.works c.put.ensures.works;
      pool = c.put.ensures.pool ∙ was.invariant.pool;
      named = subst (λ (ns : List KeyId). NameAll (keys_of c.put.new.work) ns (keys_at ts (take (was.node-index + 1) c.args.nodes.now))) (sym c.in_ok-push.ensures.ok)
          (one_more (keys_of c.put.new.work) was.numbers ts c.args.nodes.now was.node-index c.in_ok-number.number node at
          (names_stay (keys_of was.work) (keys_of c.put.new.work) was.numbers (keys_at ts (take was.node-index c.args.nodes.now)) c.put.ensures.works.keys was.invariant.named) here);
    }

use Rattle.std.proofs.Common.{ap, ◌∙◌, sym, List}
use Rattle.type_pool.specs.declared.nodes.Id.{Id}
use Rattle.type_pool.specs.declared.key_nodes.KeyNode.{KeyNode}
use Rattle.type_pool.specs.Trees.{at, at_all}
use Rattle.type_pool.specs.Keys.{key_at}
use Rattle.key_faults.specs.Shapes.{has_arity_fault, has_arity_fault_at, method_arity_fault}
use Rattle.key_faults.proofs.LevelLemmas.{by_level}
use Rattle.key_faults.proofs.shapes.has_arity_fault.Goals as goal

pub returns-in-Tree : goal.returns-in-Tree
returns-in-Tree c =
    let ts = c.args.pool.now in let w = c.args.world.now in let id = c.in-Tree.id in
    c.arity_fault_at.ensures ts ∙ by_level (has_arity_fault_at w) ts (at ts id) c.node.result.now c.node.ensures.level ∙ ap (λ (k : KeyNode). has_arity_fault w (key_at ts k)) (sym c.in-Tree.is)

pub returns-in-Meth : goal.returns-in-Meth
returns-in-Meth c =
    let ts = c.args.pool.now in let w = c.args.world.now in
    c.method_arity_fault.ensures ts ∙ ap (λ (l : List Id). method_arity_fault w c.in-Meth.method (at_all ts l)) c.as_slice.ensures ∙ ap (λ (k : KeyNode). has_arity_fault w (key_at ts k)) (sym c.in-Meth.is)

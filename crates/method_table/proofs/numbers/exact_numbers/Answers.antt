use Rattle.std.proofs.Common.{◌<◌, [], List, length, get_or, arith, Some, ap₂, ◌∙◌}
use Rattle.type_tree.specs.declared.tree.Key.TheVariants as made
use Rattle.type_tree.specs.declared.tree.Ty.{Ty}
use Rattle.type_tree.specs.Subst.{subst_ty}
use Rattle.type_pool.specs.declared.nodes.Id.{Id}
use Rattle.type_pool.specs.Trees.{at_all}
use Rattle.type_pool.proofs.JobLemmas.{at-grown, at_all-grown, below-grown}
use Rattle.method_table.proofs.Numbering.{below_in, one_numbered}
use Rattle.method_table.proofs.numbers.exact_numbers.Goals as goal

pub exact_number-requires-clause-args : goal.exact_number-requires-clause-args
exact_number-requires-clause-args c = below-grown c.args.pool.now c.loop-id.pool c.loop-id.invariant.grows.trees c.args.args.now c.requires.args

pub loop-id-preserved : goal.loop-id-preserved
loop-id-preserved c =
    let k = c.loop-id in let d : Id = record { 0 = 0 } in let ts = c.args.pool.now in let ids = c.args.ids.now in
    let inside : k.id-index < length ids = omega arith in
    let one = get_or ids k.id-index d in
    let g = k.invariant.grows.trees in
    let low = below_in (length ts) ids k.id-index d inside c.requires.trees in
    let same = ap₂ (λ (a : List Ty) (t : Ty). Some (made.Tree (subst_ty a [] t))) (at_all-grown ts k.pool g c.args.args.now c.requires.args) (at-grown ts k.pool g one low) in
    rw c.in_ok-push.ensures.ok (one_numbered (subst_ty (at_all ts c.args.args.now) []) ts c.args.keys.now ids k.id-index k.pool k.keys k.done k.invariant c.exact_number.new.pool c.exact_number.new.keys c.in_ok-number.number d inside
    c.in_ok-number.ensures.grows (c.in_ok-number.ensures.named ∙ same))

use Rattle.std.proofs.Common.{◌≡◌, ◌∙◌, true, length, List, ap, ap₂, subst, sym}
use Rattle.std.proofs.lemmas.Bool.{and_parts}
use Rattle.std.proofs.lemmas.Result.{IfOk-weaker}
use Rattle.type_tree.specs.declared.tree.Ty.{Ty}
use Rattle.type_tree.specs.Canon.{canon}
use Rattle.type_pool.specs.declared.nodes.Id.{Id}
use Rattle.type_pool.specs.declared.key_nodes.KeyNode.{KeyNode}
use Rattle.type_pool.specs.declared.key_nodes.KeyNode.TheVariants.{Meth}
use Rattle.type_pool.specs.Trees.{at, at_all, ids_below}
use Rattle.type_pool.specs.Keys.{key_at, key_below}
use Rattle.type_pool.proofs.JobLemmas.{at-grown, at_all-grown, below-grown}
use Rattle.type_pool.proofs.KeyLemmas.{args_below}
use Rattle.std.proofs.lemmas.Bool.{ltb-true}
use Rattle.method_table.specs.Named.{Tells}
use Rattle.method_table.specs.Tables.{method_record, mt}
use Rattle.method_table.proofs.tables.method_table.Goals as goal

pub method_record-requires-clause-args : goal.method_record-requires-clause-args
method_record-requires-clause-args c =
    let ts = c.args.pool.now in let us = c.canon_number.new.pool in
    let old = args_below ts c.args.key.now c.in-Meth.owner c.in-Meth.field-1 c.in-Meth.args c.requires.within c.in-Meth.is in
    subst (λ (ids : List Id). ids_below (length us) ids ≡ true) (sym c.as_slice.ensures) (below-grown ts us c.in_ok-canon.ensures.grows.trees c.in-Meth.args old)

pub returns-in-Meth-clause-tells : goal.returns-in-Meth-clause-tells
returns-in-Meth-clause-tells c =
    let w = c.args.world.now in let ts = c.args.pool.now in let us = c.canon_number.new.pool in let ls = c.method_record.new.keys in
    let g = c.in_ok-canon.ensures.grows.trees in let k = key_at ts c.args.key.now in
    let o = c.in-Meth.owner in let args = c.in-Meth.args in
    let was : key_below (length ts) (Meth o c.in-Meth.field-1 args) ≡ true = ap (key_below (length ts)) (sym c.in-Meth.is) ∙ c.requires.within in
    let parts = and_parts _ _ was in
    let owner : at us o ≡ at ts o = at-grown ts us g o (ltb-true o.0 (length ts) parts.0) in
    let all : at_all us c.as_slice.result.now ≡ at_all ts args = ap (at_all us) c.as_slice.ensures ∙ at_all-grown ts us g args parts.1 in
    let same : method_record (at us o) (at_all us c.as_slice.result.now) (canon w k) ≡ mt w k =
    ap₂ (λ (x : Ty) (xs : List Ty). method_record x xs (canon w k)) owner all ∙ (ap (λ (n : KeyNode). method_record (at ts o) (at_all ts args) (canon w (key_at ts n))) c.in-Meth.is ∙ ap (λ (n : KeyNode). mt w (key_at ts n)) (sym c.in-Meth.is)) in
    IfOk-weaker c.method_record.result _ _ (λ r e. subst (λ x. Tells us ls r x) same e) (c.method_record.ensures.tells (canon w k) c.in_ok-canon.ensures.named)

use Rattle.std.proofs.Common.{◌≡◌, ◌∙◌, ap, sym, length, arith, subst, true}
use Rattle.std.proofs.lemmas.Bool.{ltb-true}
use Rattle.type_tree.specs.declared.tree.Ty.{Ty}
use Rattle.type_tree.specs.declared.tree.Ty.TheOpen.{Ty-F}
use Rattle.type_tree.specs.declared.tree.Ty.TheVariants as ty
use Rattle.type_tree.specs.declared.tree.Ty.TheViews.{out-Ty}
use Rattle.type_pool.specs.Trees.{at, at_all, tree_of, parts_below, ids_below}
use Rattle.type_pool.proofs.Levels.{ids_below-more}
use Rattle.type_relations.proofs.HeadLemmas.{IsOther, is_other, other, no_def}
use Rattle.type_relations.proofs.heads.head_of.Goals as goal

pub returns-in_ok-from_slice-in-Inst : goal.returns-in_ok-from_slice-in-Inst
returns-in_ok-from_slice-in-Inst c =
    let ts = c.args.pool.now in
    let def = c.in-Inst.def in
    let same = c.in_ok-from_slice-in-Inst.ensures ∙ c.as_slice.ensures in
    let out : out-Ty (at ts c.args.id) ≡ Ty-F.Inst def (at_all ts c.in_ok-from_slice-in-Inst.field-0) =
    ap out-Ty (sym c.node.ensures.level ∙ ap (tree_of ts) c.in-Inst.is) ∙ ty.outs-Inst def (at_all ts c.in-Inst.args) ∙ ap (λ l. Ty-F.Inst def (at_all ts l)) (sym same) in
    let low : ids_below c.args.id.0 c.in_ok-from_slice-in-Inst.field-0 ≡ true = ap (ids_below c.args.id.0) same ∙ sym (ap (parts_below c.args.id.0) c.in-Inst.is) ∙ c.node.ensures.below in
    let below = ids_below-more c.args.id.0 (length ts) c.in_ok-from_slice-in-Inst.field-0 (omega arith) low in
    (omega arith, below, out)

pub returns-else-def-def_count : goal.returns-else-def-def_count
returns-else-def-def_count c =
    let w = c.args.world.now in
    let ts = c.args.pool.now in
    subst (λ (t : Ty). IsOther w t) (ap (tree_of ts) (sym c.in-Inst.is) ∙ c.node.ensures.level) (no_def w ts c.in-Inst.def c.in-Inst.args (omega arith))

pub returns-in-Array : goal.returns-in-Array
returns-in-Array c =
    let ts = c.args.pool.now in
    let low = ltb-true c.in-Array.part.0 c.args.id.0 (sym (ap (parts_below c.args.id.0) c.in-Array.is) ∙ c.node.ensures.below) in
    (omega arith, ap out-Ty (sym c.node.ensures.level ∙ ap (tree_of ts) c.in-Array.is) ∙ ty.outs-Array (at ts c.in-Array.part))

pub returns-in-ByRef : goal.returns-in-ByRef
returns-in-ByRef c = subst (λ (t : Ty). IsOther c.args.world.now t) c.node.ensures.level (other c.args.world.now c.args.pool.now c.node.result.now (ap is_other c.in-ByRef.is))

pub returns-in-Ptr : goal.returns-in-Ptr
returns-in-Ptr c = subst (λ (t : Ty). IsOther c.args.world.now t) c.node.ensures.level (other c.args.world.now c.args.pool.now c.node.result.now (ap is_other c.in-Ptr.is))

pub returns-in-Var : goal.returns-in-Var
returns-in-Var c = subst (λ (t : Ty). IsOther c.args.world.now t) c.node.ensures.level (other c.args.world.now c.args.pool.now c.node.result.now (ap is_other c.in-Var.is))

pub returns-in-MVar : goal.returns-in-MVar
returns-in-MVar c = subst (λ (t : Ty). IsOther c.args.world.now t) c.node.ensures.level (other c.args.world.now c.args.pool.now c.node.result.now (ap is_other c.in-MVar.is))

pub returns-in-Missing : goal.returns-in-Missing
returns-in-Missing c = subst (λ (t : Ty). IsOther c.args.world.now t) c.node.ensures.level (other c.args.world.now c.args.pool.now c.node.result.now (ap is_other c.in-Missing.is))

pub returns-in-Odd : goal.returns-in-Odd
returns-in-Odd c = subst (λ (t : Ty). IsOther c.args.world.now t) c.node.ensures.level (other c.args.world.now c.args.pool.now c.node.result.now (ap is_other c.in-Odd.is))

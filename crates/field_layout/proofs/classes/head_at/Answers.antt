use Rattle.std.proofs.Common.{◌≡◌, ◌∙◌, ap, sym, length, arith, subst, true}
use Rattle.type_tree.specs.declared.tree.Ty.{Ty}
use Rattle.type_tree.specs.declared.tree.Ty.TheOpen.{Ty-F}
use Rattle.type_tree.specs.declared.tree.Ty.TheVariants as ty
use Rattle.type_tree.specs.declared.tree.Ty.TheViews.{out-Ty}
use Rattle.type_pool.specs.Trees.{at, at_all, tree_of, parts_below, ids_below}
use Rattle.type_pool.proofs.Levels.{ids_below-more}
use Rattle.field_layout.proofs.Chains.{NoHead, no_head, no_def}
use Rattle.field_layout.proofs.classes.head_at.Goals as goal

pub returns-in_ok-from_slice-in-Inst : goal.returns-in_ok-from_slice-in-Inst
returns-in_ok-from_slice-in-Inst c =
    let ts = c.args.pool.now in
    let def = c.in-Inst.def in
    let same = c.in_ok-from_slice-in-Inst.ensures ∙ c.as_slice.ensures in
    let out : out-Ty (at ts c.args.id) ≡ Ty-F.Inst def (at_all ts c.in_ok-from_slice-in-Inst.field-0) =
    ap out-Ty (sym c.node.ensures.level ∙ ap (tree_of ts) c.in-Inst.is) ∙ ty.outs-Inst def (at_all ts c.in-Inst.args) ∙ ap (λ l. Ty-F.Inst def (at_all ts l)) (sym same) in
    let low : ids_below c.args.id.0 c.in_ok-from_slice-in-Inst.field-0 ≡ true = ap (ids_below c.args.id.0) same ∙ sym (ap (parts_below c.args.id.0) c.in-Inst.is) ∙ c.node.ensures.below in
    let below = ids_below-more c.args.id.0 (length ts) c.in_ok-from_slice-in-Inst.field-0 (omega arith) low in
    (out, omega arith, below)

pub returns-else-def-def_count : goal.returns-else-def-def_count
returns-else-def-def_count c =
    let w = c.args.world.now in
    let ts = c.args.pool.now in
    subst (λ (t : Ty). NoHead w (out-Ty t)) (ap (tree_of ts) (sym c.in-Inst.is) ∙ c.node.ensures.level) (no_def w ts c.in-Inst.def c.in-Inst.args (omega arith))

pub returns-in_default : goal.returns-in_default
returns-in_default c =
    let w = c.args.world.now in
    let ts = c.args.pool.now in
    subst (λ (t : Ty). NoHead w (out-Ty t)) c.node.ensures.level (no_head w ts c.node.result.now c.in_default.not-Inst)

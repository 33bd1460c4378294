use Rattle.std.proofs.Common.{◌≡◌, true, length, ap, ◌∙◌, sym, subst, arith}
use Rattle.type_pool.specs.Trees.{at, at_all, tree_of, parts_below, ids_below}
use Rattle.type_pool.proofs.Levels.{ids_below-more}
use Rattle.type_tree.specs.Kinds.{head}
use Rattle.std.proofs.Common.{None}
use Rattle.interface_lists.proofs.Heads.{no_head, none_at, past_at, inst_head, inst_arguments}
use Rattle.interface_lists.proofs.declared.head_of.Goals as goal

pub returns-in_ok-from_slice-in-Inst : goal.returns-in_ok-from_slice-in-Inst
returns-in_ok-from_slice-in-Inst c =
    let ts = c.args.pool.now in
    let t = at ts c.args.id in
    let d = c.in-Inst.def in
    let ids = c.in_ok-from_slice-in-Inst.field-0 in
    let same = c.in_ok-from_slice-in-Inst.ensures ∙ c.as_slice.ensures in
    let is = ap (tree_of ts) (sym c.in-Inst.is) ∙ c.node.ensures.level in
    let low : ids_below c.args.id.0 ids ≡ true = ap (ids_below c.args.id.0) same ∙ sym (ap (parts_below c.args.id.0) c.in-Inst.is) ∙ c.node.ensures.below in
    let below = ids_below-more c.args.id.0 (length ts) ids (omega arith) low in
    (inst_head ts t d c.in-Inst.args is, inst_arguments ts t d c.in-Inst.args is ∙ ap (at_all ts) (sym same), omega arith, below)

pub returns-else-def-def_count : goal.returns-else-def-def_count
returns-else-def-def_count c =
    let ts = c.args.pool.now in
    let t = at ts c.args.id in
    past_at c.args.world.now t c.in-Inst.def.0 (inst_head ts t c.in-Inst.def c.in-Inst.args (ap (tree_of ts) (sym c.in-Inst.is) ∙ c.node.ensures.level)) (omega arith)

pub returns-in_default : goal.returns-in_default
returns-in_default c =
    let ts = c.args.pool.now in
    none_at c.args.world.now (at ts c.args.id) (subst (λ t. head t ≡ None) c.node.ensures.level (no_head ts c.node.result.now c.in_default.not-Inst))

use Rattle.std.proofs.Common.{◌≡◌, None, Some, ap, ◌∙◌, sym, subst, arith}
use Rattle.std.proofs.lemmas.Bool.{le-ltb}
use Rattle.type_pool.specs.Trees.{at, tree_of}
use Rattle.type_tree.specs.Kinds.{head}
use Rattle.interface_lists.proofs.Heads.{no_head, none_at, some_at, past_at, inst_head, names-def}
use Rattle.interface_lists.proofs.declared.names_interface.Goals as goal

pub returns-then-def-def_count : goal.returns-then-def-def_count
returns-then-def-def_count c =
    let ts = c.args.pool.now in
    let w = c.args.world.now in
    let t = at ts c.args.id in
    let h = inst_head ts t c.in-Inst.def c.in-Inst.field-1 (ap (tree_of ts) (sym c.in-Inst.is) ∙ c.node.ensures.level) in
    c.is_interface.ensures ∙ sym (names-def w t (Some c.def.result.now) (some_at w t c.in-Inst.def.0 h ∙ c.def.ensures.value))

pub returns-else-def-def_count : goal.returns-else-def-def_count
returns-else-def-def_count c =
    let ts = c.args.pool.now in
    let w = c.args.world.now in
    let t = at ts c.args.id in
    let h = inst_head ts t c.in-Inst.def c.in-Inst.field-1 (ap (tree_of ts) (sym c.in-Inst.is) ∙ c.node.ensures.level) in
    le-ltb c.in-Inst.def.0 c.def_count.result c.if-def-def_count.false ∙ sym (names-def w t None (past_at w t c.in-Inst.def.0 h (omega arith)))

pub returns-in_default : goal.returns-in_default
returns-in_default c =
    let ts = c.args.pool.now in
    let w = c.args.world.now in
    let t = at ts c.args.id in
    sym (names-def w t None (none_at w t (subst (λ u. head u ≡ None) c.node.ensures.level (no_head ts c.node.result.now c.in_default.not-Inst))))

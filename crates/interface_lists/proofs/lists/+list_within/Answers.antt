use Rattle.std.proofs.Common.{◌≡◌, ◌-◌, suc, [], None, Some, List, slice_get, ap, ◌∙◌, sym, subst, arith}
use Rattle.std.proofs.lemmas.Option.{slice_get_past}
use Rattle.std.proofs.lemmas.Result.{IfOk-weaker}
use Rattle.type_tree.specs.declared.definition.Def.{Def}
use Rattle.type_tree.specs.declared.tree.Ty.{Ty}
use Rattle.type_pool.specs.Trees.{at_all}
use Rattle.interface_lists.specs.Lists as spec
use Rattle.interface_lists.specs.Walks.{IdsAre}
use Rattle.interface_lists.proofs.Chains.{none_within, no_def, at_root, at_child}
use Rattle.interface_lists.proofs.Ids.{no_ids}
use Rattle.interface_lists.proofs.lists.+list_within.Goals as goal

pub returns-then-room-eq0-clause-list : goal.returns-then-room-eq0-clause-list
returns-then-room-eq0-clause-list t c =
    ([], none_within c.args.world.now c.args.room c.args.id.0 (omega arith), no_ids c.args.pool.now c.new.result c.new.ensures)

pub returns-then-id-def_count-clause-list : goal.returns-then-id-def_count-clause-list
returns-then-id-def_count-clause-list t c =
    let w = c.args.world.now in
    let n = c.args.id.0 in
    let room : c.args.room ≡ suc (c.args.room - 1) = omega arith in
    let past : slice_get w.defs n ≡ None = slice_get_past w.defs n (omega arith) in
    ([], ap (λ k. spec.interfaces k w n) room ∙ no_def w (c.args.room - 1) n past, no_ids c.args.pool.now c.new-then-id-def_count.result c.new-then-id-def_count.ensures)

pub returns-in-Some-2-clause-list : goal.returns-in-Some-2-clause-list
returns-in-Some-2-clause-list t c =
    let w = c.args.world.now in
    let n = c.args.id.0 in
    let k = c.args.room - 1 in
    let p = c.in-Some.parent.0 in
    let d : Def = c.def-def.result.now in
    let pool = c.list_within.new.pool in
    let room : c.args.room ≡ suc k = omega arith in
    let given = subst (λ o. IdsAre pool o (spec.interfaces k w p)) c.in-Some-2.is c.in_ok-above-in-Some.ensures.list in
    let trees : List Ty = given.0 in
    let same : at_all pool c.as_slice.result.now ≡ trees = ap (at_all pool) c.as_slice.ensures ∙ given.2.are in
    let is = ap (λ k. spec.interfaces k w n) room ∙ at_child w k n d c.def-def.ensures.value p (Some trees) (sym c.in-Some.ensures) given.1
    ∙ ap (λ us. spec.with_own w d (spec.from_parent d.parent us)) (sym same) in
    IfOk-weaker c.list_of.result _ _ (λ ids s. subst (IdsAre c.list_of.new.pool ids) (sym is) s) c.list_of.ensures.list

pub returns-in-None-2-clause-list : goal.returns-in-None-2-clause-list
returns-in-None-2-clause-list t c =
    let w = c.args.world.now in
    let n = c.args.id.0 in
    let k = c.args.room - 1 in
    let p = c.in-Some.parent.0 in
    let d : Def = c.def-def.result.now in
    let pool = c.list_within.new.pool in
    let room : c.args.room ≡ suc k = omega arith in
    let given = subst (λ o. IdsAre pool o (spec.interfaces k w p)) c.in-None-2.is c.in_ok-above-in-Some.ensures.list in
    ap (λ k. spec.interfaces k w n) room ∙ at_child w k n d c.def-def.ensures.value p None (sym c.in-Some.ensures) given

pub returns-in-None-clause-list : goal.returns-in-None-clause-list
returns-in-None-clause-list t c =
    let w = c.args.world.now in
    let n = c.args.id.0 in
    let k = c.args.room - 1 in
    let d : Def = c.def-def.result.now in
    let room : c.args.room ≡ suc k = omega arith in
    let is = ap (λ k. spec.interfaces k w n) room ∙ at_root w k n d c.def-def.ensures.value (sym c.in-None.ensures) in
    IfOk-weaker c.list_of-in-None.result _ _ (λ ids s. subst (IdsAre c.list_of-in-None.new.pool ids) (sym is) s) c.list_of-in-None.ensures.list

use Rattle.std.proofs.Common.{◌∙◌, ap, sym, slice_get, subst}
use Rattle.std.proofs.lemmas.Result.{IfOk-weaker}
use Rattle.type_pool.specs.Trees.{at, at_all}
use Rattle.field_layout.specs.Notes.{IsHead}
use Rattle.field_layout.specs.Fields.{width}
use Rattle.field_layout.specs.Layouts.{inst_layout}
use Rattle.field_layout.proofs.Chains.{layout_some, layout_leaf}
use Rattle.field_layout.proofs.top.layout_in.Goals as goal

pub returns-in-Some-clause-value : goal.returns-in-Some-clause-value
returns-in-Some-clause-value c =
    let w = c.args.world.now in
    let ts = c.args.pool.now in
    let head = subst (λ o. IsHead w ts (at ts c.args.id) o) c.in-Some.is c.in_ok-def.ensures in
    let def = c.in-Some.def in
    let value = layout_some w (at ts c.args.id) def (at_all ts c.in-Some.args) head.0 in
    let same = ap (λ l. inst_layout w def (at_all ts l) (width w def) (slice_get w.defs def.0)) c.as_slice.ensures in
    IfOk-weaker c.inst.result _ _ (λ a e. e ∙ same ∙ sym value) c.inst.ensures.value

pub returns-in-None-clause-value : goal.returns-in-None-clause-value
returns-in-None-clause-value c =
    let w = c.args.world.now in
    let ts = c.args.pool.now in
    let none = subst (λ o. IsHead w ts (at ts c.args.id) o) c.in-None.is c.in_ok-def.ensures in
    c.leaf.ensures ∙ sym (layout_leaf w ts (at ts c.args.id) c.node.result.now c.node.ensures.level none)

use Rattle.std.proofs.Common.{◌<◌, ◌∙◌, ◌+◌, ap, ap₂, sym, arith, length, subst, List, []}
use Rattle.std.proofs.lemmas.Result.{IfOk-weaker}
use Rattle.type_tree.specs.declared.tree.Ty.{Ty}
use Rattle.type_tree.specs.Subst.{subst_ty}
use Rattle.type_pool.specs.Trees.{at, at_all}
use Rattle.type_pool.proofs.JobLemmas.{below-grown, at_all-grown, at-grown, grown_length}
use Rattle.field_layout.specs.Notes.{IsHead, TypesAre}
use Rattle.field_layout.specs.Fields.{field_types}
use Rattle.field_layout.specs.Layouts.{behind}
use Rattle.field_layout.specs.Ends.{IsEnded}
use Rattle.field_layout.proofs.Chains.{shapes_found}
use Rattle.field_layout.proofs.EndNotes.{leaf_ended, cut_ended, exception_ended, class_ended, some_parent, ends_kept, known-grown}
use Rattle.field_layout.proofs.Levels.{exists_at}
use Rattle.field_layout.proofs.classes.+classes.Goals as goal

pub end_at-returns-then-is_exception-clause-found : goal.end_at-returns-then-is_exception-clause-found
end_at-returns-then-is_exception-clause-found t c =
    exception_ended c.args.world.now (at c.args.pool.now c.args.id) c.args.head (at_all c.args.pool.now c.args.args.now) c.def-def.result.now c.requires.head c.def-def.ensures.value c.args.parents
    (sym c.is_exception.ensures ∙ c.if-is_exception.true)

pub end_at-fields_in-requires-clause-args : goal.end_at-fields_in-requires-clause-args
end_at-fields_in-requires-clause-args t c = below-grown _ _ c.in_ok-parent.ensures.grows c.args.args.now c.requires.args

pub end_at-returns-clause-known : goal.end_at-returns-clause-known
end_at-returns-clause-known t c = record {
  shapes = c.in_ok-found.ensures.noted;
  ends = (known-grown c.args.world.now c.parent_end.new.pool c.fields_in.new.pool c.in_ok-found.ensures.grows c.parent_end.new.notes c.in_ok-parent.ensures.known).ends;
}

pub end_at-returns-clause-found : goal.end_at-returns-clause-found
end_at-returns-clause-found t c =
    let w = c.args.world.now in
    let d = c.def-def.result.now in
    let args = at_all c.args.pool.now c.args.args.now in
    let same = at_all-grown _ _ c.in_ok-parent.ensures.grows c.args.args.now c.requires.args in
    let types : TypesAre w (field_types w d args) 64 c.in_ok-found.found = subst (λ (l : List Ty). TypesAre w (field_types w d l) 64 c.in_ok-found.found) same c.in_ok-found.ensures.found in
    let is = c.in_ok-answer.ensures.value ∙ ap (behind c.in_ok-parent.parent.end w d) (shapes_found w (field_types w d args) 64 c.in_ok-found.found types) in
    let all = class_ended w (at c.args.pool.now c.args.id) c.args.head args d c.requires.head c.def-def.ensures.value c.args.parents c.in_ok-parent.parent c.in_ok-answer.answer
    (sym c.is_exception.ensures ∙ c.if-is_exception.false) c.in_ok-parent.ensures.found is c.in_ok-answer.ensures.short in
    subst (λ e. IsEnded w (at c.args.pool.now c.args.id) (c.args.parents + 1) (record { members = c.in_ok-parent.parent.members + 1; end = e })) (sym c.end_of.ensures) all

pub end_in-returns-clause-known : goal.end_in-returns-clause-known
end_in-returns-clause-known t c =
    let w = c.args.world.now in
    let found = c.in_ok-found.ensures in
    let ts = c.args.pool.now in
    let us = c.end_of_head.new.pool in
    let longer = grown_length ts us found.grows in
    let within : c.args.id.0 < length us = omega (arith, longer, c.requires.within) in
    let is = subst (λ (u : Ty). IsEnded w u c.args.chain c.in_ok-found.found) (sym (at-grown ts us found.grows c.args.id c.requires.within)) found.found in
    record {
      shapes = found.known.shapes;
      ends = ends_kept w us _ _ c.args.id c.args.chain c.in_ok-found.found found.known.ends within is c.in_ok-keep_end.ensures;
    }

pub end_of_head-returns-then-chain-eq0-clause-found : goal.end_of_head-returns-then-chain-eq0-clause-found
end_of_head-returns-then-chain-eq0-clause-found t c =
    let w = c.args.world.now in
    let ts = c.args.pool.now in
    let u = at ts c.args.id in
    let head = subst (λ o. IsHead w ts u o) c.in-Some.is c.in_ok-def.ensures in
    let found = exists_at w.defs c.in-Some.def.0 head.1 in
    let cut = cut_ended w u c.in-Some.def (at_all ts c.in-Some.args) found.0 head.0 found.1 in
    subst (λ n. IsEnded w u n _) (sym c.if-chain-eq0.true) cut

pub end_of_head-returns-in-None-clause-found : goal.end_of_head-returns-in-None-clause-found
end_of_head-returns-in-None-clause-found t c =
    let w = c.args.world.now in
    let ts = c.args.pool.now in
    let u = at ts c.args.id in
    leaf_ended w u c.args.chain (subst (λ o. IsHead w ts u o) c.in-None.is c.in_ok-def.ensures)

pub parent_end-subst-requires-clause-types_in : goal.parent_end-subst-requires-clause-types_in
parent_end-subst-requires-clause-types_in t c = below-grown _ _ c.in_ok-open-in-Some.ensures.grows c.args.args.now c.requires.args

pub parent_end-end_in-requires : goal.parent_end-end_in-requires
parent_end-end_in-requires t c =
    let one = known-grown c.args.world.now c.args.pool.now c.from_tree.new.pool c.in_ok-open-in-Some.ensures.grows c.args.notes.now c.requires.known in
    (omega arith, (c.in_ok-id-in-Some.ensures.spells.within, (c.requires.few, known-grown c.args.world.now c.from_tree.new.pool c.subst.new.pool c.in_ok-id-in-Some.ensures.grows c.args.notes.now one)))

pub parent_end-returns-in_ok-id-in-Some-clause-found : goal.parent_end-returns-in_ok-id-in-Some-clause-found
parent_end-returns-in_ok-id-in-Some-clause-found t c =
    let w = c.args.world.now in
    let args = at_all-grown c.args.pool.now c.from_tree.new.pool c.in_ok-open-in-Some.ensures.grows c.args.args.now c.requires.args in
    let is = c.in_ok-id-in-Some.ensures.spells.is ∙ ap₂ (λ l u. subst_ty l [] u) args c.in_ok-open-in-Some.ensures.spells.is in
    IfOk-weaker c.end_in.result _ _ (λ n h. some_parent w (at_all c.args.pool.now c.args.args.now) _ _ _ c.args.parents n c.in-Some.is is h) c.end_in.ensures.found

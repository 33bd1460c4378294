use Rattle.std.proofs.Common.{◌∙◌, ap₂, sym, subst, List}
use Rattle.std.proofs.lemmas.Result.{IfOk-weaker}
use Rattle.type_tree.specs.declared.tree.Ty.{Ty}
use Rattle.type_pool.specs.Trees.{at_all}
use Rattle.type_pool.proofs.JobLemmas.{below-grown, at_all-grown, on_ok}
use Rattle.field_layout.specs.Ends.{Known}
use Rattle.field_layout.specs.Notes.{TypesAre}
use Rattle.field_layout.specs.Fields.{field_types}
use Rattle.field_layout.specs.Layouts.{behind, class_layout}
use Rattle.field_layout.proofs.Chains.{shapes_found, class_row}
use Rattle.field_layout.proofs.EndNotes.{known-grown}
use Rattle.field_layout.proofs.classes.class_at.Goals as goal

pub fields_in-requires-clause-args : goal.fields_in-requires-clause-args
fields_in-requires-clause-args c = below-grown _ _ c.in_ok-parent.ensures.grows c.args.args.now c.requires.args

pub returns-clause-known : goal.returns-clause-known
returns-clause-known c =
    let w = c.args.world.now in
    let known : Known w c.fields_in.new.pool (record { shapes = c.fields_in.new.notes; ends = c.parent_end.new.notes.ends }) = record {
      shapes = c.in_ok-found.ensures.noted;
      ends = (known-grown w c.parent_end.new.pool c.fields_in.new.pool c.in_ok-found.ensures.grows c.parent_end.new.notes c.in_ok-parent.ensures.known).ends;
    } in
    on_ok c.behind.result known

pub returns-clause-value : goal.returns-clause-value
returns-clause-value c =
    let w = c.args.world.now in
    let d = c.def-def.result.now in
    let args = at_all c.args.pool.now c.args.args.now in
    let same = at_all-grown _ _ c.in_ok-parent.ensures.grows c.args.args.now c.requires.args in
    let types : TypesAre w (field_types w d args) 64 c.in_ok-found.found = subst (λ (l : List Ty). TypesAre w (field_types w d l) 64 c.in_ok-found.found) same c.in_ok-found.ensures.found in
    let row = class_row w (class_layout 63 w) c.args.id d args (sym c.is_exception.ensures ∙ c.if-is_exception.false) c.def-def.ensures.value in
    let is = ap₂ (λ p s. behind p w d s) (sym c.in_ok-parent.ensures.found.here) (shapes_found w (field_types w d args) 64 c.in_ok-found.found types) ∙ sym row in
    IfOk-weaker c.behind.result _ _ (λ a e. e ∙ is) c.behind.ensures.value

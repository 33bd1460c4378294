use Rattle.std.proofs.Common.{length, map, ap, ◌∙◌, arith}
use Rattle.type_tree.specs.declared.definition.Field.{Field}
use Rattle.type_tree.specs.declared.definition.Method.{Method}
use Rattle.type_members.proofs.MemberGroupLists.{groups_next, groups_whole}
use Rattle.type_members.specs.MemberIndexes.{method_names, field_names}
use Rattle.type_members.proofs.member_index.MemberIndex.new.Goals as goal

pub loop-r-preserved : goal.loop-r-preserved
loop-r-preserved c =
    let w = c.args.members.now in
    record {
      methods =
          groups_next (λ r. r.first_method) (λ r. r.methods) (method_names w) _ c.loop-r.r-index _ _ _ _ _ _ c.as_slice-r-items.ensures (omega arith)
          c.loop-r.invariant.methods (c.as_slice-names.ensures ∙ c.in_ok-method_names.ensures ∙ ap (map (λ (m : Method). m.name)) c.as_slice.ensures) c.in_ok-groups_of.ensures c.in_ok-push.ensures.ok;
      fields =
          groups_next (λ r. r.first_field) (λ r. r.fields) (field_names w) _ c.loop-r.r-index _ _ _ _ _ _ c.as_slice-r-items.ensures (omega arith)
          c.loop-r.invariant.fields (c.as_slice-names-in-loop-r.ensures ∙ c.in_ok-field_names.ensures ∙ ap (map (λ (f : Field). f.name)) c.as_slice-2.ensures) c.in_ok-groups_of-2.ensures c.in_ok-push-2.ensures.ok;
    }

pub returns : goal.returns
returns c =
    let w = c.args.members.now in
    record {
      methods = groups_whole (λ r. r.first_method) (λ r. r.methods) (method_names w) w.runs c.loop-r.methods c.loop-r.r-index (omega (arith, ap length c.as_slice-r-items.ensures)) c.loop-r.invariant.methods;
      fields = groups_whole (λ r. r.first_field) (λ r. r.fields) (field_names w) w.runs c.loop-r.fields c.loop-r.r-index (omega (arith, ap length c.as_slice-r-items.ensures)) c.loop-r.invariant.fields;
      are_few = c.requires;
    }

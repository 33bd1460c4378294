use Rattle.std.proofs.Common.{◌≡◌, map, Option, None, Some, subst, ap, ◌∙◌}
use Rattle.clr_base.specs.declared.ids.Handle.{Handle}
use Rattle.type_record.specs.declared.loaded.TypeRecord.{TypeRecord}
use Rattle.type_record.specs.TheOne.{IsSuch}
use Rattle.type_record.specs.Naming.{choice_in}
use Rattle.type_record.proofs.naming.record_of.Goals as goal

pub returns-in_default-6 : goal.returns-in_default-6
returns-in_default-6 g c x e =
    let all = map (map (choice_in (g.H.Handles.handle_of c.args.names.now))) in
    let none : IsSuch (λ ls. all c.as_slice-5.result.now ≡ map (map (choice_in Some)) ls) None =
    subst (IsSuch (λ ls. all c.as_slice-5.result.now ≡ map (map (choice_in Some)) ls)) c.in_default-6.is c.in_ok-interface_slots.ensures in
    none x.interface_slots (ap all c.as_slice-5.ensures ∙ ap (λ (r : TypeRecord (Option Handle)). r.interface_slots) e)

use Rattle.std.proofs.Common.{◌≡◌, Option, Some, subst, sym}
use Rattle.clr_base.specs.declared.ids.Handle.{Handle}
use Rattle.type_record.specs.declared.loaded.SlotOf.{SlotOf}
use Rattle.type_record.specs.TheOne.{IsSuch}
use Rattle.type_record.specs.Naming.{choice_in}
use Rattle.type_record.proofs.NamingLemmas.{none_chosen}
use Rattle.type_record.proofs.naming.choice_in.Goals as goal

pub returns-in_err-slot_in-in-Some : goal.returns-in_err-slot_in-in-Some
returns-in_err-slot_in-in-Some g c =
    let f = g.H.Handles.handle_of c.args.names.now in
    let none : (s : Option (SlotOf Handle)) → choice_in f c.args.choice.now ≡ choice_in Some s → ⊥ =
    subst (λ choice. (s : Option (SlotOf Handle)) → choice_in f choice ≡ choice_in Some s → ⊥) (sym c.in-Some.is) (none_chosen f c.in-Some.slot c.in_err-slot_in-in-Some.ensures) in
    subst (IsSuch (λ s. choice_in f c.args.choice.now ≡ choice_in Some s)) (sym c.from_residual.ensures) none

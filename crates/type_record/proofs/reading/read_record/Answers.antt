use Rattle.std.proofs.Common.{◌≡◌, take, None, Some, sym, ap, subst, ◌∙◌, arith}
use Rattle.clr_base.specs.declared.ids.Handle.{Handle}
use Rattle.type_record.specs.declared.interfaces.Interfaces.{Interfaces}
use Rattle.type_record.specs.declared.loaded.TypeRecord.{TypeRecord}
use Rattle.type_record.specs.TheOne.{IsTheOne}
use Rattle.type_record.specs.Words.{IsHandle}
use Rattle.type_record.specs.Room.{FieldFits, SlotFits}
use Rattle.type_record.specs.Records.{arg_entry, field_entry, slot_entry}
use Rattle.type_record.specs.Sections.{AreWords, AreInterfaces}
use Rattle.type_record.proofs.RecordLemmas.{front_part, sections, read_of_sections, at_front, moved_words, moved_back, moved_interfaces, record_same}
use Rattle.type_record.proofs.reading.read_record.Goals as goal
use Rattle.type_record.proofs.reading.read_record.Goals.{then-words-methods_at-via-then-words-methods_at, then-words-methods_at-via-else-words-methods_at+then-words-methods_at-ge1099511627776}

pub returns-in_default : goal.returns-in_default
returns-in_default c x is = c.in_default.ensures (front_part x) (sections c.args.words.now x is).front

pub returns-then-words-methods_at : goal.returns-then-words-methods_at
returns-then-words-methods_at c x is =
    let at = at_front c.args.words.now c.in-Some.front c.in-Some.ensures.1 x is in
    let long = at.long in
    let few = at.few in
    elim c.then-words-methods_at.branch [
      | then-words-methods_at-via-then-words-methods_at w ↦ omega arith
      | then-words-methods_at-via-else-words-methods_at+then-words-methods_at-ge1099511627776 w ↦ omega arith
    ]

pub returns-in_default-2 : goal.returns-in_default-2
returns-in_default-2 c x is =
    let at = at_front c.args.words.now c.in-Some.front c.in-Some.ensures.1 x is in
    let none : IsTheOne (λ (r : Interfaces). AreInterfaces 0 c.first_words-own.result.now c.words_from-methods.result.now r.all r.slots) None =
    subst (IsTheOne (λ (r : Interfaces). AreInterfaces 0 c.first_words-own.result.now c.words_from-methods.result.now r.all r.slots)) c.in_default-2.is c.in_ok-interfaces.ensures in
    none (record { all = x.interfaces; slots = x.interface_slots })
    (moved_interfaces _ c.first_words-own.result.now _ c.words_from-methods.result.now x.interfaces x.interface_slots
    (sym (c.first_words-own.ensures ∙ ap (take c.in-Some.front.shape.interfaces) c.words_from.ensures)) (sym c.words_from-methods.ensures) at.interfaces)

pub returns-in_default-3 : goal.returns-in_default-3
returns-in_default-3 c x is =
    let at = at_front c.args.words.now c.in-Some.front c.in-Some.ensures.1 x is in
    let none : IsTheOne (AreWords IsHandle arg_entry c.first_words-own-2.result.now) None =
    subst (IsTheOne (AreWords IsHandle arg_entry c.first_words-own-2.result.now)) c.in_default-3.is c.in_ok-args.ensures in
    none x.args (moved_words IsHandle arg_entry c.first_words-own-2.result.now _ x.args (c.first_words-own-2.ensures ∙ ap (take c.in-Some.front.shape.args) c.words_from-2.ensures) at.args)

pub returns-in_default-4 : goal.returns-in_default-4
returns-in_default-4 c x is =
    let at = at_front c.args.words.now c.in-Some.front c.in-Some.ensures.1 x is in
    let none : IsTheOne (AreWords FieldFits field_entry c.first_words-own-3.result.now) None =
    subst (IsTheOne (AreWords FieldFits field_entry c.first_words-own-3.result.now)) c.in_default-4.is c.in_ok-fields.ensures in
    none x.fields (moved_words FieldFits field_entry c.first_words-own-3.result.now _ x.fields (c.first_words-own-3.ensures ∙ ap (take c.in-Some.front.shape.fields) c.words_from-3.ensures) at.fields)

pub returns-in_default-5 : goal.returns-in_default-5
returns-in_default-5 c x is =
    let at = at_front c.args.words.now c.in-Some.front c.in-Some.ensures.1 x is in
    let none : IsTheOne (AreWords SlotFits slot_entry c.first_words-own-4.result.now) None =
    subst (IsTheOne (AreWords SlotFits slot_entry c.first_words-own-4.result.now)) c.in_default-5.is c.in_ok-slots.ensures in
    none x.slots (moved_words SlotFits slot_entry c.first_words-own-4.result.now _ x.slots (c.first_words-own-4.ensures ∙ ap (take c.in-Some.front.shape.slots) c.words_from-4.ensures) at.slots)

pub returns : goal.returns
returns c =
    let words = c.args.words.now in
    let front = c.in-Some.front in
    let interfaces_one : IsTheOne (λ (r : Interfaces). AreInterfaces 0 c.first_words-own.result.now c.words_from-methods.result.now r.all r.slots) (Some c.in-Some-2.interfaces) =
    subst (IsTheOne (λ (r : Interfaces). AreInterfaces 0 c.first_words-own.result.now c.words_from-methods.result.now r.all r.slots)) c.in-Some-2.is c.in_ok-interfaces.ensures in
    let interfaces_at = c.first_words-own.ensures ∙ ap (take c.in-Some.front.shape.interfaces) c.words_from.ensures in
    let args_one : IsTheOne (AreWords IsHandle arg_entry c.first_words-own-2.result.now) (Some c.in-Some-3.args) =
    subst (IsTheOne (AreWords IsHandle arg_entry c.first_words-own-2.result.now)) c.in-Some-3.is c.in_ok-args.ensures in
    let args_at = c.first_words-own-2.ensures ∙ ap (take c.in-Some.front.shape.args) c.words_from-2.ensures in
    let fields_one : IsTheOne (AreWords FieldFits field_entry c.first_words-own-3.result.now) (Some c.in-Some-4.fields) =
    subst (IsTheOne (AreWords FieldFits field_entry c.first_words-own-3.result.now)) c.in-Some-4.is c.in_ok-fields.ensures in
    let fields_at = c.first_words-own-3.ensures ∙ ap (take c.in-Some.front.shape.fields) c.words_from-3.ensures in
    let slots_one : IsTheOne (AreWords SlotFits slot_entry c.first_words-own-4.result.now) (Some c.in-Some-5.slots) =
    subst (IsTheOne (AreWords SlotFits slot_entry c.first_words-own-4.result.now)) c.in-Some-5.is c.in_ok-slots.ensures in
    let slots_at = c.first_words-own-4.ensures ∙ ap (take c.in-Some.front.shape.slots) c.words_from-4.ensures in
    let made : TypeRecord Handle = record {
      shape = c.in-Some.front.shape;
      parent = c.in-Some.front.parent;
      canon = c.in-Some.front.canon;
      element = c.in-Some.front.element;
      args = c.in-Some-3.args;
      interfaces = c.in-Some-2.interfaces.all;
      fields = c.in-Some-4.fields;
      slots = c.in-Some-5.slots;
      interface_slots = c.in-Some-2.interfaces.slots;
    } in (
      read_of_sections words made (record {
        front = c.in-Some.ensures.0;
        at = record {
          long = omega arith;
          few = omega arith;
          args = moved_back IsHandle arg_entry c.first_words-own-2.result.now _ c.in-Some-3.args args_at args_one.0;
          interfaces = moved_interfaces c.first_words-own.result.now _ c.words_from-methods.result.now _ c.in-Some-2.interfaces.all c.in-Some-2.interfaces.slots interfaces_at c.words_from-methods.ensures interfaces_one.0;
          fields = moved_back FieldFits field_entry c.first_words-own-3.result.now _ c.in-Some-4.fields fields_at fields_one.0;
          slots = moved_back SlotFits slot_entry c.first_words-own-4.result.now _ c.in-Some-5.slots slots_at slots_one.0;
        };
      }),
      λ x is.
          let at = at_front c.args.words.now c.in-Some.front c.in-Some.ensures.1 x is in
          let same_front = c.in-Some.ensures.1 (front_part x) (sections c.args.words.now x is).front in
          let own : Interfaces = record { all = x.interfaces; slots = x.interface_slots } in
          let both : own ≡ c.in-Some-2.interfaces = interfaces_one.1 own
          (moved_interfaces _ c.first_words-own.result.now _ c.words_from-methods.result.now x.interfaces x.interface_slots (sym interfaces_at) (sym c.words_from-methods.ensures) at.interfaces) in
          record_same x made same_front
          (args_one.1 x.args (moved_words IsHandle arg_entry c.first_words-own-2.result.now _ x.args args_at at.args))
          (ap (λ (r : Interfaces). r.all) both)
          (fields_one.1 x.fields (moved_words FieldFits field_entry c.first_words-own-3.result.now _ x.fields fields_at at.fields))
          (slots_one.1 x.slots (moved_words SlotFits slot_entry c.first_words-own-4.result.now _ x.slots slots_at at.slots))
          (ap (λ (r : Interfaces). r.slots) both),
    )

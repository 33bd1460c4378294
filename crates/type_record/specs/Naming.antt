-- Records with something else in the place of each type that they name.
use Rattle.std.specs.Prelude.{◌≡◌, map, Option, Some, option_map}
use Rattle.clr_base.specs.declared.ids.Handle.{Handle}
use Rattle.type_record.specs.declared.loaded.FieldOf.{FieldOf}
use Rattle.type_record.specs.declared.loaded.SlotOf.{SlotOf}
use Rattle.type_record.specs.declared.loaded.TypeRecord.{TypeRecord}

abbrev pub field_in : {K L : Type 0} → (K → L) → FieldOf K → FieldOf L
field_in f x = record { offset = x.offset; value = option_map f x.value }

abbrev pub slot_in : {K L : Type 0} → (K → L) → SlotOf K → SlotOf L
slot_in f x = record { method = x.method; owner = f x.owner }

abbrev pub choice_in : {K L : Type 0} → (K → L) → Option (SlotOf K) → Option (SlotOf L)
choice_in f x = option_map (slot_in f) x

-- the record with f of each type in the type's place
abbrev pub record_in : {K L : Type 0} → (K → L) → TypeRecord K → TypeRecord L
record_in f r = record {
  shape = r.shape;
  parent = option_map f r.parent;
  canon = f r.canon;
  element = option_map f r.element;
  args = map f r.args;
  interfaces = map f r.interfaces;
  fields = map (field_in f) r.fields;
  slots = map (slot_in f) r.slots;
  interface_slots = map (map (choice_in f)) r.interface_slots;
}

-- each type of the table has a handle, which stands in the type's place in the record; all else is the same
abbrev pub IsInHandles : {K : Type 0} → (K → Option Handle) → TypeRecord K → TypeRecord Handle → Type 0
IsInHandles handle_of table r = record_in handle_of table ≡ record_in Some r

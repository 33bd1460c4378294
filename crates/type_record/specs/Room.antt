-- Parts of a record that have a word of their own: what fits there, and that it does.
use Rattle.std.specs.Prelude.{ℕ, ◌<◌, Option, None, Some, IfSome}
use Rattle.std.proofs.Common.{arith}
use Rattle.clr_base.specs.declared.ids.Handle.{Handle}
use Rattle.type_record.specs.declared.loaded.FieldOf.{FieldOf}
use Rattle.type_record.specs.declared.loaded.SlotOf.{SlotOf}
use Rattle.type_record.specs.Words.{FitsWord, IsHandle}
use Rattle.type_record.specs.Records.{above_none, arg_entry, field_entry, slot_entry, choice_entry, Is32, FieldHasNumber, SlotHasNumber, ChoiceHasNumber, FieldHasHandle, SlotHasHandle, ChoiceHasHandle}

abbrev pub FieldFits : FieldOf Handle → Type 0
FieldFits f = FieldHasNumber f × FieldHasHandle f

abbrev pub SlotFits : SlotOf Handle → Type 0
SlotFits s = SlotHasNumber s × SlotHasHandle s

abbrev pub ChoiceFits : Option (SlotOf Handle) → Type 0
ChoiceFits c = ChoiceHasNumber c × ChoiceHasHandle c

pub arg_room : (k : Handle) → IsHandle k → FitsWord (arg_entry k)
arg_room k fits = (omega arith, fits)

above_small : (o : Option ℕ) → IfSome o Is32 → above_none o < 35184372088832
above_small None fits = omega arith
above_small (Some n) fits = omega arith

pub field_room : (f : FieldOf Handle) → FieldFits f → FitsWord (field_entry f)
field_room f fits = (above_small f.offset fits.0, fits.1)

pub slot_room : (s : SlotOf Handle) → SlotFits s → FitsWord (slot_entry s)
slot_room s fits = let small : s.method.0 < 4294967296 = fits.0 in (omega arith, fits.1)

pub choice_room : (c : Option (SlotOf Handle)) → ChoiceFits c → FitsWord (choice_entry c)
choice_room None fits = (omega arith, tt)
choice_room (Some s) fits = let small : s.method.0 < 4294967296 = fits.0 in (omega arith, fits.1)

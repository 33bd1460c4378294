-- The items so far stand behind what stood there, and have numbers of 32 bits.
use Rattle.std.proofs.Common.{◌≡◌, ◌++◌, map, take}
use Rattle.std.specs.List.{All}
use Rattle.type_record.specs.Records.{field_entry, FieldHasNumber}
use Rattle.type_record.proofs.entry_list.push_fields.Given as goal

abbrev pub invariant-loop-field : goal.invariant-loop-field
invariant-loop-field g l = record {
  pushed : l.all ≡ l.fn.all ++ map field_entry (take l.field-index l.fields);
  numbers : All FieldHasNumber (take l.field-index l.fields);
}

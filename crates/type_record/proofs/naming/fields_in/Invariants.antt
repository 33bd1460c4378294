-- The items so far.
use Rattle.std.proofs.Common.{◌≡◌, map, take, Some}
use Rattle.type_record.specs.Naming.{field_in}
use Rattle.type_record.proofs.naming.fields_in.Given as goal

abbrev pub invariant-loop-field : goal.invariant-loop-field
invariant-loop-field g l = map (field_in (g.H.Handles.handle_of l.names)) (take l.field-index l.fields) ≡ map (field_in Some) l.all

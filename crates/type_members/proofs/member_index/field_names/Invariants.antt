use Rattle.std.proofs.Common.{◌≡◌, map, take}
use Rattle.type_members.proofs.member_index.field_names.Given as goal

abbrev pub invariant-loop-field : goal.invariant-loop-field
invariant-loop-field l = l.names ≡ map (λ f. f.name) (take l.field-index l.fields)

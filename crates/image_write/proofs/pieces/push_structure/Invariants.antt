use Rattle.std.proofs.Common.{◌≡◌, ◌++◌, drop}
use Rattle.image_write.specs.Pieces.{structure}
use Rattle.image_write.proofs.pieces.push_structure.Given as goal

abbrev pub invariant-loop-field : goal.invariant-loop-field
invariant-loop-field l = l.out.items ++ structure l.at l.len (drop l.field-index l.fields) ≡ l.initial.out.items ++ structure 0 l.len l.fields

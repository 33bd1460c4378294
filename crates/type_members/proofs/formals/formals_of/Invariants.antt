use Rattle.std.proofs.Common.{◌≡◌, map, take}
use Rattle.type_members.specs.Members.{formal_of}
use Rattle.type_members.proofs.formals.formals_of.Given as goal

abbrev pub invariant-loop-row : goal.invariant-loop-row
invariant-loop-row l = l.formals ≡ map (formal_of l.types l.tables) (take l.row-index l.rows)

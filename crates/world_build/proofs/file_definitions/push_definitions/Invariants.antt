use Rattle.std.proofs.Common.{◌≡◌, ◌++◌, map}
use Rattle.std.specs.List.{range_with_len}
use Rattle.type_members.specs.Definitions.{def_of}
use Rattle.type_members.specs.MemberTable.{run_at}
use Rattle.world_build.specs.References.{impls_of}
use Rattle.world_build.proofs.file_definitions.push_definitions.Given as goal

abbrev pub invariant-loop-row : goal.invariant-loop-row
invariant-loop-row l =
    l.defs ≡ l.fn.defs
    ++ map (λ row. def_of l.names l.reader.tables l.file (run_at l.fields_before l.methods_before l.reader.tables row) (impls_of l.reader row) row)
    (range_with_len 1 l.row)

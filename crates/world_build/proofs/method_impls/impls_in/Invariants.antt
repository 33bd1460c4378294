use Rattle.std.proofs.Common.{◌≡◌, map, take}
use Rattle.world_build.specs.References.{impl_of}
use Rattle.world_build.proofs.method_impls.impls_in.Given as goal

abbrev pub invariant-loop-row : goal.invariant-loop-row
invariant-loop-row l = l.impls ≡ map (impl_of l.reader) (take l.row-index l.rows)

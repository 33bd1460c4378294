use Rattle.std.proofs.Common.{◌≡◌, map, take}
use Rattle.std.specs.List.{enumerate_from}
use Rattle.type_names.specs.Resolution.{places_in}
use Rattle.type_names.proofs.resolve.resolve_files.Given as goal

abbrev pub invariant-loop-file : goal.invariant-loop-file
invariant-loop-file l = l.found ≡ map (places_in l.files) (take l.file (enumerate_from 0 l.files))

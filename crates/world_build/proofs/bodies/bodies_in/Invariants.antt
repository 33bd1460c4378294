use Rattle.std.proofs.Common.{◌≡◌, map}
use Rattle.std.specs.List.{range_with_len}
use Rattle.world_build.specs.Bodies.{body_of}
use Rattle.world_build.proofs.bodies.bodies_in.Given as goal

abbrev pub invariant-loop-row : goal.invariant-loop-row
invariant-loop-row l = l.bodies ≡ map (body_of l.bytes l.file l.tables) (range_with_len 1 l.row)

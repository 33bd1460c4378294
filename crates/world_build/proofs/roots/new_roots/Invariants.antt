use Rattle.std.proofs.Common.{◌≡◌, ◌+◌, length, map, take}
use Rattle.std.specs.Prelude.{string_bytes}
use Rattle.world_build.specs.Roots.{AreNewRoots}
use Rattle.world_build.proofs.roots.new_roots.Given as goal

abbrev pub invariant-loop-word : goal.invariant-loop-word
invariant-loop-word l = AreNewRoots l.world l.form (take l.word-index (map string_bytes l.words)) l.found × (l.sig ≡ length l.world.sigs + l.word-index)

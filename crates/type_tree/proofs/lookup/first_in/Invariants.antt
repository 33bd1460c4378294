use Rattle.std.proofs.Common.{◌≡◌, drop}
use Rattle.std.specs.List.{position_from}
use Rattle.type_tree.specs.Lookup as spec
use Rattle.type_tree.proofs.lookup.first_in.Given as goal

abbrev pub invariant-loop-number : goal.invariant-loop-number
invariant-loop-number l = position_from (spec.is_named l.world l.place l.name) l.number (drop l.number l.world.defs) ≡ spec.first_in l.world l.place l.name

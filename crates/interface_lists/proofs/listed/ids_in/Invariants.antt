use Rattle.std.proofs.Common.{◌≡◌, ◌++◌, map, drop}
use Rattle.interface_lists.specs.Walks.{id_of}
use Rattle.interface_lists.proofs.listed.ids_in.Given as goal

abbrev pub invariant-loop-number : goal.invariant-loop-number
invariant-loop-number l = l.ids ++ map id_of (drop l.number-index l.number-items) ≡ map id_of l.list.keys

use Rattle.std.proofs.Common.{◌≡◌, ◌++◌, drop}
use Rattle.type_relations.proofs.ListLemmas.{trees}
use Rattle.type_relations.proofs.supers.as_keys.Given as goal

abbrev pub invariant-loop-id : goal.invariant-loop-id
invariant-loop-id l = l.keys ++ trees (drop l.id-index l.ids) ≡ trees l.ids

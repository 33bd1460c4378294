use Rattle.std.proofs.Common.{◌≡◌, ◌++◌, drop}
use Rattle.type_relations.proofs.lists.push_ids.Given as goal

abbrev pub invariant-loop-id : goal.invariant-loop-id
invariant-loop-id l = l.ids ++ drop l.id-index l.more ≡ l.fn.ids ++ l.more

use Rattle.std.proofs.Common.{◌≡◌, ◌++◌, true, length, drop}
use Rattle.type_pool.specs.Trees.{at_all, ids_below, Grows}
use Rattle.type_relations.proofs.ValueLemmas.{own, value_types}
use Rattle.type_relations.proofs.contents.push_fields.Given as goal

abbrev pub invariant-loop-number : goal.invariant-loop-number
invariant-loop-number l = record {
  grows : Grows l.fn.pool l.pool;
  within : ids_below (length l.pool) l.ids ≡ true;
  are : at_all l.pool l.ids ++ value_types l.world (at_all l.fn.pool l.args) (drop l.number (own l.world l.def)) ≡ at_all l.fn.pool l.fn.ids ++ value_types l.world (at_all l.fn.pool l.args) (own l.world l.def);
}

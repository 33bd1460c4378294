use Rattle.std.proofs.Common.{◌≡◌, ◌&&◌, drop}
use Rattle.std.specs.Prelude.{not}
use Rattle.std.specs.List.{list_any}
use Rattle.type_tree.specs.declared.definition.Impl.{Impl}
use Rattle.type_pool.specs.Trees.{at_all, Grows}
use Rattle.method_slots.specs.Chains as chains
use Rattle.slot_chains.proofs.answers.rows_fail.Given as goal

abbrev pub invariant-loop-row : goal.invariant-loop-row
invariant-loop-row l = record {
  grows : Grows l.fn.pool l.pool;
  left : list_any (λ (row : Impl). not (chains.owns l.world l.id.0 row.body && chains.is_declared l.world (at_all l.fn.pool l.types) row)) (drop l.row-index l.rows)
      ≡ list_any (λ (row : Impl). not (chains.owns l.world l.id.0 row.body && chains.is_declared l.world (at_all l.fn.pool l.types) row)) l.rows;
}

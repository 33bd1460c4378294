use Rattle.std.proofs.Common.{◌≡◌, drop, map}
use Rattle.type_pool.specs.Trees.{at_all, Grows}
use Rattle.method_slots.specs.Chains as spec
use Rattle.slot_chains.specs.Puts.{replace_all}
use Rattle.slot_chains.proofs.rows.put_rows.Given as goal

abbrev pub invariant-loop-row : goal.invariant-loop-row
invariant-loop-row l = record {
  grows : Grows l.fn.pool l.pool;
  left : replace_all l.entries (map (spec.row_take l.world l.def.0 (at_all l.fn.pool l.parents)) (drop l.row-index l.rows))
      ≡ replace_all l.fn.entries (map (spec.row_take l.world l.def.0 (at_all l.fn.pool l.parents)) l.rows);
}

use Rattle.std.proofs.Common.{take}
use Rattle.type_pool.specs.Trees.{Grows}
use Rattle.interface_maps.specs.Rows.{GainRows}
use Rattle.interface_maps.proofs.rows.add_rows.Given as goal

abbrev pub invariant-loop-row : goal.invariant-loop-row
invariant-loop-row l = record {
  grows : Grows l.fn.pool l.pool;
  gains : GainRows l.world l.def.0 l.fn.pool l.fn.numbers l.pool l.numbers (take l.row-index l.rows);
}

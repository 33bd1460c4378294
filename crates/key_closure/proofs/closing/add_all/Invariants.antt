use Rattle.std.proofs.Common.{◌≡◌, ◌&&◌, true, length, drop, List}
use Rattle.std.specs.List.{list_all}
use Rattle.type_tree.specs.declared.tree.Key.{Key}
use Rattle.type_pool.specs.Keys.{keys_below}
use Rattle.key_closure.specs.Closures.{AddsAll}
use Rattle.key_closure.specs.Bounds as spec
use Rattle.key_closure.proofs.closing.add_all.Given as goal

abbrev pub invariant-loop-key : goal.invariant-loop-key
invariant-loop-key l = record {
  within : keys_below (length l.pool) (drop l.key-index l.more) ≡ true;
  below : keys_below (length l.pool) l.members ≡ true;
  rest : (after : List Key) → AddsAll (spec.keys_at l.pool l.members) (spec.keys_at l.pool (drop l.key-index l.more)) after → AddsAll (spec.keys_at l.pool l.fn.members) (spec.keys_at l.pool l.more) after;
  fit : (l.fit && list_all spec.fits (spec.keys_at l.pool (drop l.key-index l.more))) ≡ list_all spec.fits (spec.keys_at l.pool l.more);
}

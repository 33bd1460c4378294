use Rattle.std.proofs.Common.{◌≡◌, true, length, drop}
use Rattle.std.specs.List.{list_any}
use Rattle.type_pool.specs.Trees.{ids_below}
use Rattle.type_subs.specs.Notes.{flag}
use Rattle.type_subs.proofs.canons.any_flag.Given as goal

abbrev pub invariant-loop-id : goal.invariant-loop-id
invariant-loop-id l = record {
  below : ids_below (length l.flags) (drop l.id-index l.ids) ≡ true;
  left : list_any (flag l.flags) (drop l.id-index l.ids) ≡ list_any (flag l.flags) l.ids;
}

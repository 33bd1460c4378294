use Rattle.std.proofs.Common.{◌≡◌, drop}
use Rattle.type_tree.specs.Fits as spec
use Rattle.type_tree.proofs.counts.+fits.Given as goal

abbrev pub invariant-all_fit-loop-t : goal.invariant-all_fit-loop-t
invariant-all_fit-loop-t l = spec.all_fit l.counts (drop l.t-index l.all) ≡ spec.all_fit l.counts l.all

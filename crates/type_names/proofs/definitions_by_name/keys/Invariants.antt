use Rattle.std.proofs.Common.{◌≡◌, ◌+◌, get_or}
use Rattle.type_names.specs.TypeKeys.{keys_of}
use Rattle.type_names.proofs.definitions_by_name.keys.Given as goal

abbrev pub invariant-loop-place : goal.invariant-loop-place
invariant-loop-place l = l.keys ≡ keys_of (λ i. get_or l.around (i + 1) 0) l.columns l.place

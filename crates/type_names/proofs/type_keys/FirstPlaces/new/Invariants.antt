use Rattle.std.proofs.Common.{◌≡◌}
use Rattle.type_names.specs.declared.type_keys.TypeKey.{TypeKey}
use Rattle.type_names.specs.TypeKeys.{place_in, first_of}
use Rattle.type_names.proofs.type_keys.FirstPlaces.new.Given as goal

abbrev pub invariant-loop-place : goal.invariant-loop-place
invariant-loop-place l = (key : TypeKey) → place_in l.places key ≡ first_of l.keys key l.place

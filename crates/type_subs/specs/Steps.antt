-- What is known of two types as arrays.
use Rattle.std.specs.Prelude.{◌≡◌, ◌<◌, Bool, List}
use Rattle.type_tree.specs.declared.tree.Ty.{Ty}
use Rattle.type_tree.specs.World.{Facts}
use Rattle.type_pool.specs.declared.nodes.Id.{Id}
use Rattle.type_pool.specs.Trees.{at}
use Rattle.type_subs.specs.declared.subs.Step.{Step}
use Rattle.type_subs.specs.declared.subs.Step.TheVariants.{Known, Elements}
use Rattle.type_subs.specs.Subs.{element_fits, is_array_sub, is_sub}

-- Whether a test holds is known, or it holds where one of two elements is a sub of the other.
abbrev pub Decides : Facts → List Ty → Bool → Step → Type 0
Decides w ts b (Known is) = is ≡ b
Decides w ts b (Elements e f) = b ≡ is_sub w (at ts e) (at ts f)

-- where both elements have numbers below these
abbrev pub IsBelow : Id → Id → Step → Type 0
IsBelow a b (Known is) = Unit {0}
IsBelow a b (Elements e f) = (e.0 < a.0) × (f.0 < b.0)

abbrev pub fits_by_elements : Facts → Ty → Ty → Bool
fits_by_elements w e f = element_fits w (e, is_array_sub w e) f

-- the same elements, where they decide
abbrev pub Names : Id → Id → Step → Type 0
Names e f (Known is) = Unit {0}
Names e f (Elements a b) = (a ≡ e) × (b ≡ f)

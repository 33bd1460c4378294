-- Which exact type is a sub of which: where a value of the one may stand for the other (ECMA-335 I.8.7.1).
use Rattle.std.specs.Prelude.{Bool, false, ◌&&◌, ◌||◌}
use Rattle.type_tree.specs.declared.tree.Ty.{Ty}
use Rattle.type_tree.specs.declared.tree.Ty.TheOpen.{Ty-F}
use Rattle.type_tree.specs.declared.tree.Ty.TheViews.{out-Ty}
use Rattle.type_tree.specs.declared.tree.Ty.TheFolds.{para-Ty}
use Rattle.type_tree.specs.contracts.tree.Ty as row-of-ty
use Rattle.type_tree.specs.Kinds.{is_reference}
use Rattle.type_tree.specs.Same.{same}
use Rattle.type_tree.specs.World.{Facts}
use Rattle.type_subs.specs.Supers.{extends}

abbrev pub same_tree : Ty → Ty → Bool
same_tree = same row-of-ty.the_row.coded

-- An array of e fits as one of f where e is f, or where both are reference types and e is a sub of f. The element e is given
-- with whether it fits, itself an array, as an array.
abbrev pub element_fits : Facts → Ty × (Ty → Bool) → Ty → Bool
element_fits w e f = same_tree e.0 f || (is_reference w e.0 && is_reference w f && (extends w e.0 f || e.1 f))

abbrev pub array_fits : Facts → Ty × (Ty → Bool) → Ty-F Ty → Bool
array_fits w e (Ty-F.Array f) = element_fits w e f
array_fits w e _ = false

abbrev pub array_step : Facts → Ty-F (Ty × (Ty → Bool)) → Ty → Bool
array_step w (Ty-F.Array e) g = array_fits w e (out-Ty g)
array_step w _ g = false

-- both are arrays, and the first fits as the second (I.8.7.1)
unfoldable pub is_array_sub : Facts → Ty → Ty → Bool
is_array_sub w = para-Ty (Ty → Bool) (array_step w)

-- g is k, or one of its supers, or both are arrays that fit
abbrev pub is_sub : Facts → Ty → Ty → Bool
is_sub w k g = extends w k g || is_array_sub w k g

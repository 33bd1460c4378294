-- The interfaces that a definition has, as trees in its own generic parameters (ECMA-335 II.10.2, II.12.2).
use Rattle.std.specs.Prelude.{ℕ, zero, suc, Bool, false, not, ◌&&◌, nat_le, nat_lt, cond, List, [], ◌∷◌, ◌++◌, length, Option, None, Some, slice_get}
use Rattle.std.specs.List.{list_any, list_all}
use Rattle.std.specs.Option.{option_map, option_map_or, option_and_then}
use Rattle.type_tree.specs.declared.definition.Def.{Def}
use Rattle.type_tree.specs.declared.tree.Ty.{Ty}
use Rattle.type_tree.specs.Context.{arguments}
use Rattle.type_tree.specs.Kinds.{head, head_of}
use Rattle.type_tree.specs.Measure.{depth, weight}
use Rattle.type_tree.specs.Subst.{subst_all}
use Rattle.type_tree.specs.World.{Facts}
use Rattle.method_slots.specs.Slots.{is_interface, same_tree}

-- ---- what is declared

-- the definition at the head of a tree
abbrev pub def_of : Facts → Ty → Option Def
def_of w t = option_and_then (λ p. slice_get w.defs p) (head t)

-- whether a tree is an instantiation of an interface
abbrev pub names_interface : Facts → Ty → Bool
names_interface w t = option_map_or is_interface (def_of w t) false

-- the interfaces that the definition at the head of a tree declares, with the tree's arguments put in
abbrev pub declared : Facts → Ty → List Ty
declared w t = subst_all (arguments t) [] (option_map_or (λ (d : Def). d.interfaces) (def_of w t) [])

-- ---- bounds

-- A list has at most so many trees, each at most so deep and so heavy.
abbrev pub longest_list : ℕ
longest_list = 4096

abbrev pub is_small : Ty → Bool
is_small t = nat_le (depth t) 64 && nat_le (weight t) 65536

-- ---- what a definition itself declares

-- whether a tree is that of an interface which isn't listed yet
abbrev pub is_new : Facts → Ty → List Ty → Bool
is_new w t found = names_interface w t && not (list_any (same_tree t) found)

abbrev pub may_join : Ty → List Ty → Bool
may_join t found = nat_lt (length found) longest_list && is_small t

-- trees one after the other, each as `visit` says; none where it says so of one
abbrev pub in_turn : (Ty → List Ty → Option (List Ty)) → List Ty → List Ty → Option (List Ty)
in_turn visit [] found = Some found
in_turn visit (t ∷ ts) found = option_and_then (in_turn visit ts) (visit t found)

-- A new interface goes last in the list, and what it declares follows as `inside` says; none where the list would pass its
-- bounds. Whatever isn't the tree of an interface is passed over, and an interface that is listed isn't gone into again.
abbrev pub visit_at : Facts → (List Ty → List Ty → Option (List Ty)) → Ty → List Ty → Option (List Ty)
visit_at w inside t found = cond (is_new w t found) (cond (may_join t found) (inside (declared w t) (found ++ t ∷ [])) None) (Some found)

-- with declarations nested at most so deep
unfoldable pub visit : ℕ → Facts → Ty → List Ty → Option (List Ty)
visit zero w t found = visit_at w (λ ts more. None) t found
visit (suc k) w t found = visit_at w (in_turn (visit k w)) t found

-- each of some interfaces in order, followed by what it declares in turn, where these are listed already
abbrev pub follow : Facts → List Ty → List Ty → Option (List Ty)
follow w = in_turn (visit longest_list w)

-- each declared interface in row order, followed by its own list, without repeats; none where that passes the bounds
abbrev pub own_list : Facts → Def → Option (List Ty)
own_list w d = follow w d.interfaces []

-- ---- the whole list

-- a list with more trees after it, without repeats: the first of equal ones stays
abbrev pub joined : List Ty → List Ty → List Ty
joined found [] = found
joined found (t ∷ ts) = joined (cond (list_any (same_tree t) found) found (found ++ t ∷ [])) ts

abbrev pub bounded : List Ty → Option (List Ty)
bounded ts = cond (nat_le (length ts) longest_list && list_all is_small ts) (Some ts) None

-- the parent's list with the parent's arguments put in
abbrev pub from_parent : Option Ty → List Ty → List Ty
from_parent None above = []
from_parent (Some t) above = subst_all (arguments t) [] above

-- the parent's list, where `above` tells it of a definition; a parent that is no instantiation has none
abbrev pub inherited_list : (ℕ → Option (List Ty)) → Option Ty → Option (List Ty)
inherited_list above parent = option_map (from_parent parent) (option_map_or above (head_of parent) (Some []))

-- the parent's list comes first, and then what the definition itself declares
abbrev pub with_own : Facts → Def → List Ty → Option (List Ty)
with_own w d inherited = option_and_then (λ own. bounded (joined (joined [] inherited) own)) (own_list w d)

abbrev pub list_at : (ℕ → Option (List Ty)) → Facts → Option Def → Option (List Ty)
list_at above w None = Some []
list_at above w (Some d) = option_and_then (with_own w d) (inherited_list above d.parent)

-- the interfaces of a definition whose chain of parents has at most so many members; none where the list passes its bounds
unfoldable pub interfaces : ℕ → Facts → ℕ → Option (List Ty)
interfaces zero w n = Some []
interfaces (suc k) w n = list_at (interfaces k w) w (slice_get w.defs n)

-- What a type or method stands on directly: its parents and interfaces, its direct members (I.8.9.9, II.10.1, II.12).
use Rattle.std.specs.Prelude.{Bool, if◌then◌else◌, List, [], ◌∷◌, ◌++◌, map, filter, take, drop, Option, None, Some, slice_get}
use Rattle.std.specs.Option.{option_to_list}
use Rattle.type_tree.specs.declared.tree.Ty.{Ty}
use Rattle.type_tree.specs.declared.tree.Ty.TheOpen.{Ty-F}
use Rattle.type_tree.specs.declared.tree.Ty.TheViews.{out-Ty}
use Rattle.type_tree.specs.declared.tree.Ty.TheVariants as ty
use Rattle.type_tree.specs.declared.tree.Key.{Key}
use Rattle.type_tree.specs.declared.tree.Key.TheVariants.{Tree, Meth}
use Rattle.type_tree.specs.declared.definition.Def.{Def}
use Rattle.type_tree.specs.World.{Facts}
use Rattle.type_tree.specs.Subst.{subst_ty}
use Rattle.type_tree.specs.Canon.{canon}
use Rattle.type_tree.specs.Context.{arguments}
use Rattle.type_tree.specs.Kinds.{is_value}

-- trees of a definition, with its arguments put in
abbrev pub put_in : List Ty → List Ty → List Ty
put_in args opens = map (subst_ty args []) opens

-- the exact parent, and then the exact declared interfaces in row order
abbrev pub bases_of : List Ty → Option Def → List Ty
bases_of args None = []
bases_of args (Some d) = put_in args (option_to_list d.parent) ++ put_in args d.interfaces

-- System.Array, which each array extends
abbrev pub system_array : Ty
system_array = ty.Inst (record { 0 = 19 }) []

abbrev pub bases_at : Facts → Ty-F Ty → List Ty
bases_at w (Ty-F.Inst d parts) = bases_of parts (slice_get w.defs d.0)
bases_at w (Ty-F.Array part) = system_array ∷ []
bases_at w _ = []

abbrev pub bases : Facts → Ty → List Ty
bases w t = bases_at w (out-Ty t)

-- the types of own fields, instance and static
abbrev pub field_types : Facts → List Ty → Def → List Ty
field_types w args d = put_in args (map (λ f. f.ty) (take d.fields (drop d.first_field w.fields)))

-- those that are value types
abbrev pub value_fields_of : Facts → List Ty → Option Def → List Ty
value_fields_of w args None = []
value_fields_of w args (Some d) = filter (is_value w) (field_types w args d)

-- an array's element, or the value types of own fields
abbrev pub contents_at : Facts → Ty-F Ty → List Ty
contents_at w (Ty-F.Inst d parts) = value_fields_of w parts (slice_get w.defs d.0)
contents_at w (Ty-F.Array part) = part ∷ []
contents_at w _ = []

abbrev pub contents : Facts → Ty → List Ty
contents w t = contents_at w (out-Ty t)

-- the parents and interfaces of a type; of a method none
abbrev pub supers_of : Facts → Key → List Key
supers_of w (Tree t) = map Tree (bases w t)
supers_of w (Meth k) = []

-- What a key stands on but its canonical form, in order. A type: its arguments, its exact parent and interfaces, an array's
-- element or the value types of own fields. A method: its owner and its arguments.
abbrev pub stands_on : Facts → Key → List Ty
stands_on w (Tree t) = arguments t ++ (bases w t ++ contents w t)
stands_on w (Meth k) = k.owner ∷ k.args

-- The direct members: what a key stands on, and its canonical form last. A key with a fault of its own has none.
abbrev pub members_of : (Key → Bool) → Facts → Key → List Key
members_of is_faulty w k = if is_faulty k then [] else map Tree (stands_on w k) ++ canon w k ∷ []

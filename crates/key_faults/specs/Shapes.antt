-- Faults that a key has by its form: how many arguments there are, and which (ECMA-335 II.9.4, II.14.2).
use Rattle.std.specs.Prelude.{ℕ, Bool, true, false, not, nat_eq, List, length, slice_get}
use Rattle.std.specs.List.{list_any}
use Rattle.std.specs.Option.{option_map_or}
use Rattle.clr_base.specs.declared.ids.DefId.{DefId}
use Rattle.clr_base.specs.declared.ids.MethId.{MethId}
use Rattle.type_tree.specs.declared.tree.Ty.{Ty}
use Rattle.type_tree.specs.declared.tree.Ty.TheOpen.{Ty-F}
use Rattle.type_tree.specs.declared.tree.Ty.TheViews.{out-Ty}
use Rattle.type_tree.specs.declared.tree.Key.{Key}
use Rattle.type_tree.specs.declared.tree.Key.TheVariants.{Tree, Meth}
use Rattle.type_tree.specs.declared.definition.Def.{Def}
use Rattle.type_tree.specs.declared.definition.Method.{Method}
use Rattle.type_tree.specs.World.{Facts}
use Rattle.core_types.specs.declared.core_type.CoreType.TheVariants.{Void}
use Rattle.core_types.specs.CoreTable.{number_of}

-- ---- Arity

-- there are other than so many arguments
abbrev pub differ : {A B : Type 0} → List A → List B → Bool
differ args formals = not (nat_eq (length args) (length formals))

abbrev pub has_arity_fault_at : {A : Type 0} → Facts → Ty-F A → Bool
has_arity_fault_at w (Ty-F.Inst d args) = option_map_or (λ (def : Def). differ args def.formals) (slice_get w.defs d.0) false
has_arity_fault_at w _ = false

abbrev pub method_arity_fault : {A : Type 0} → Facts → MethId → List A → Bool
method_arity_fault w method args = option_map_or (λ (m : Method). differ args m.formals) (slice_get w.methods method.0) false

-- the arguments of a type, or a method's own, aren't as many as the generic parameters
abbrev pub has_arity_fault : Facts → Key → Bool
has_arity_fault w (Tree t) = has_arity_fault_at w (out-Ty t)
has_arity_fault w (Meth k) = method_arity_fault w k.method k.args

-- ---- BadArgument

-- void, a reference, a pointer, a form outside the profile, or a variable
abbrev pub is_no_argument_at : {A : Type 0} → Ty-F A → Bool
is_no_argument_at (Ty-F.Inst d args) = nat_eq d.0 (number_of Void)
is_no_argument_at (Ty-F.Array e) = false
is_no_argument_at (Ty-F.ByRef t) = true
is_no_argument_at (Ty-F.Ptr t) = true
is_no_argument_at (Ty-F.Var n) = true
is_no_argument_at (Ty-F.MVar n) = true
is_no_argument_at (Ty-F.Missing name value) = false
is_no_argument_at (Ty-F.Odd code) = true

abbrev pub is_no_argument : Ty → Bool
is_no_argument t = is_no_argument_at (out-Ty t)

-- such an argument, such an element of an array, or the tree itself is a variable
abbrev pub has_bad_argument_at : Ty-F Ty → Bool
has_bad_argument_at (Ty-F.Inst d args) = list_any is_no_argument args
has_bad_argument_at (Ty-F.Array e) = is_no_argument e
has_bad_argument_at (Ty-F.Var n) = true
has_bad_argument_at (Ty-F.MVar n) = true
has_bad_argument_at _ = false

abbrev pub has_bad_argument_of : Ty → Bool
has_bad_argument_of t = has_bad_argument_at (out-Ty t)

abbrev pub has_bad_argument : Key → Bool
has_bad_argument (Tree t) = has_bad_argument_of t
has_bad_argument (Meth k) = list_any is_no_argument k.args

-- ---- names, and forms outside the profile

-- a name that no definition has
abbrev pub is_missing_at : {A : Type 0} → Ty-F A → Bool
is_missing_at (Ty-F.Missing name value) = true
is_missing_at _ = false

abbrev pub is_missing : Ty → Bool
is_missing t = is_missing_at (out-Ty t)

-- a reference, a pointer, or a form outside the profile
abbrev pub is_outside_at : {A : Type 0} → Ty-F A → Bool
is_outside_at (Ty-F.ByRef t) = true
is_outside_at (Ty-F.Ptr t) = true
is_outside_at (Ty-F.Odd code) = true
is_outside_at _ = false

abbrev pub is_outside : Ty → Bool
is_outside t = is_outside_at (out-Ty t)

-- Which constraints of generic parameters arguments fail (ECMA-335 II.10.1.7, II.22.21, II.23.1.7).
use Rattle.std.specs.Prelude.{ℕ, Bool, false, not, ◌&&◌, ◌||◌, ◌==◌, bit_and, List, [], length, take, drop, zip, codes, Option, None, Some, slice_get}
use Rattle.std.specs.List.{list_any}
use Rattle.std.specs.Str.{bytes_eq}
use Rattle.clr_base.specs.declared.ids.MethId.{MethId}
use Rattle.type_tree.specs.declared.definition.Def.{Def}
use Rattle.type_tree.specs.declared.definition.Formal.{Formal}
use Rattle.type_tree.specs.declared.definition.Method.{Method}
use Rattle.type_tree.specs.declared.tree.Ty.{Ty}
use Rattle.type_tree.specs.declared.tree.Ty.TheOpen.{Ty-F}
use Rattle.type_tree.specs.declared.tree.Ty.TheViews.{out-Ty}
use Rattle.type_tree.specs.declared.tree.Key.{Key}
use Rattle.type_tree.specs.declared.tree.Key.TheVariants.{Tree, Meth}
use Rattle.type_tree.specs.Context.{arguments}
use Rattle.type_tree.specs.Kinds.{is_value, is_reference}
use Rattle.type_tree.specs.Lookup.{name_text}
use Rattle.type_tree.specs.Subst.{subst_ty}
use Rattle.type_tree.specs.World.{Facts}
use Rattle.type_subs.specs.Supers.{extends}

abbrev pub has_flag : ℕ → ℕ → Bool
has_flag flags bit = not (bit_and flags bit == 0)

-- ---- what has a public constructor without parameters

-- public 6 of the mask 7, not static 0x10 (II.23.1.10), named `.ctor` (II.10.5.1), and without parameters
abbrev pub is_plain_constructor : Facts → Method → Bool
is_plain_constructor w m =
    bit_and m.flags 7 == 6 && not (has_flag m.flags 0x10) && length m.params == 0 && bytes_eq (name_text w m.name) (codes ".ctor")

abbrev pub own_methods : Facts → Def → List Method
own_methods w d = take d.methods (drop d.first_method w.methods)

-- a class, and so no interface 0x20, that isn't abstract 0x80 (II.23.1.15), with such a constructor of its own
abbrev pub is_made : Facts → Def → Bool
is_made w d = not (has_flag d.flags 0x20) && not (has_flag d.flags 0x80) && list_any (is_plain_constructor w) (own_methods w d)

abbrev pub can_be_made : Facts → Option Def → Bool
can_be_made w None = false
can_be_made w (Some d) = is_made w d

abbrev pub is_new_class_at : Facts → Ty-F Ty → Bool
is_new_class_at w (Ty-F.Inst d parts) = can_be_made w (slice_get w.defs d.0)
is_new_class_at w _ = false

-- a value type, or such a class
abbrev pub is_new : Facts → Ty → Bool
is_new w t = is_value w t || is_new_class_at w (out-Ty t)

-- ---- the constraints of one generic parameter

-- The flags ask for a reference type 4, a value type 8, a constructor 0x10.
abbrev pub fails_flags : Facts → ℕ → Ty → Bool
fails_flags w flags arg =
    (has_flag flags 4 && not (is_reference w arg)) || (has_flag flags 8 && not (is_value w arg)) || (has_flag flags 0x10 && not (is_new w arg))

-- A constraint type, with the arguments put in, is the argument or one of its supers, or it fails.
abbrev pub fails_types : Facts → List Ty → List Ty → List Ty → Ty → Bool
fails_types w types methods constraints arg = list_any (λ c. not (extends w arg (subst_ty types methods c))) constraints

-- whether an argument fails a constraint of its generic parameter, `types` and `methods` being put in for variables
abbrev pub fails : Facts → List Ty → List Ty → Formal → Ty → Bool
fails w types methods f arg = fails_flags w f.flags arg || fails_types w types methods f.constraints arg

-- ---- the constraints of a key

-- Each argument is held against the generic parameter at its place; one without its partner fails nothing, since the
-- numbers differ only where that is another fault.
abbrev pub any_fails : Facts → List Ty → List Ty → List Formal → List Ty → Bool
any_fails w types methods formals args = list_any (λ p. fails w types methods p.0 p.1) (zip formals args)

abbrev pub formals_of_def : Option Def → List Formal
formals_of_def None = []
formals_of_def (Some d) = d.formals

abbrev pub formals_of_method : Option Method → List Formal
formals_of_method None = []
formals_of_method (Some m) = m.formals

-- the generic parameters of the definition of an instantiation; of any other tree none
abbrev pub formals_at : Facts → Ty-F Ty → List Formal
formals_at w (Ty-F.Inst d args) = formals_of_def (slice_get w.defs d.0)
formals_at w _ = []

abbrev pub formals_of_type : Facts → Ty → List Formal
formals_of_type w t = formals_at w (out-Ty t)

-- A type's arguments are held against the generic parameters of its definition.
abbrev pub type_fails : Facts → Ty → Bool
type_fails w t = any_fails w (arguments t) [] (formals_of_type w t) (arguments t)

-- A method's own arguments are held against the method's; those of its owner are the owner's own matter.
abbrev pub method_fails : Facts → Ty → MethId → List Ty → Bool
method_fails w owner m args = any_fails w (arguments owner) args (formals_of_method (slice_get w.methods m.0)) args

abbrev pub key_fails : Facts → Key → Bool
key_fails w (Tree t) = type_fails w t
key_fails w (Meth k) = method_fails w k.owner k.method k.args

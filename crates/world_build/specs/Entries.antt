-- Entries: the methods that a program may begin with (ECMA-335 II.15.4.1.2).
use Rattle.std.specs.Prelude.{◌≡◌, ℕ, ◌<◌, ◌≤◌, Bool, true, false, not, ◌&&◌, ◌||◌, ◌==◌, bit_and, List, [], ◌∷◌, ◌++◌, codes, length, Option, None, Some, slice_get}
use Rattle.std.specs.List.{find, range_with_len}
use Rattle.std.specs.Option.{option_map}
use Rattle.std.specs.Str.{bytes_eq}
use Rattle.std.specs.Str.Pattern.{LacksTextAt}
use Rattle.clr_base.specs.declared.ids.DefId.{DefId}
use Rattle.clr_base.specs.declared.ids.MethId.{MethId}
use Rattle.type_tree.specs.declared.definition.Def.{Def}
use Rattle.type_tree.specs.declared.definition.Method.{Method}
use Rattle.type_tree.specs.declared.tree.Ty.{Ty}
use Rattle.type_tree.specs.declared.tree.Ty.TheOpen.{Ty-F}
use Rattle.type_tree.specs.declared.tree.Ty.TheViews.{out-Ty}
use Rattle.type_tree.specs.Lookup.{name_text}
use Rattle.type_tree.specs.World.{Facts}
use Rattle.core_types.specs.declared.core_type.CoreType.{CoreType}
use Rattle.core_types.specs.declared.core_type.CoreType.TheVariants.{Void, Int32, String}
use Rattle.core_types.specs.CoreTable.{number_of}
use Rattle.type_members.specs.MemberTable.{method_id}

-- the parts of a word: what stands before its last `::`, and what stands behind that
pub record IsParted (word owner name : List ℕ) : Type 0 where
  pub whole : word ≡ owner ++ (codes "::" ++ name)
  pub last : (place : ℕ) → length owner < place → place ≤ length word → LacksTextAt (codes "::") word place

-- ---- methods that are entries

-- a type of the core without arguments
abbrev pub is_core_at : CoreType → Ty-F Ty → Bool
is_core_at core (Ty-F.Inst d parts) = length parts == 0 && d.0 == number_of core
is_core_at core _ = false

abbrev pub is_core : CoreType → Ty → Bool
is_core core t = is_core_at core (out-Ty t)

-- System.String[]
abbrev pub is_strings_at : Ty-F Ty → Bool
is_strings_at (Ty-F.Array element) = is_core String element
is_strings_at _ = false

abbrev pub is_strings : Ty → Bool
is_strings t = is_strings_at (out-Ty t)

-- no parameter, or one that is System.String[]
abbrev pub takes_strings : List Ty → Bool
takes_strings [] = true
takes_strings (t ∷ []) = is_strings t
takes_strings (t ∷ u ∷ ts) = false

-- the result is void or int32
abbrev pub gives_status : Ty → Bool
gives_status t = is_core Void t || is_core Int32 t

-- MethodAttributes.Static (II.23.1.10)
abbrev pub is_static : Method → Bool
is_static m = not (bit_and m.flags 0x10 == 0)

-- a static method of that name, without generic parameters, with no parameter or one System.String[], and with the result void or int32
abbrev pub is_entry : Facts → List ℕ → Method → Bool
is_entry w name m =
    bytes_eq (name_text w m.name) name && is_static m && length m.formals == 0 && takes_strings m.params && gives_status m.ret

-- ---- the entry that a definition has under a name

abbrev pub is_entry_at : Facts → List ℕ → Option Method → Bool
is_entry_at w name None = false
is_entry_at w name (Some m) = is_entry w name m

-- the numbers of a definition's own methods
abbrev pub own_methods : Option Def → List ℕ
own_methods None = []
own_methods (Some d) = range_with_len d.first_method d.methods

-- the first own method that is an entry of that name
unfoldable pub entry_in : Facts → List ℕ → DefId → Option ℕ
entry_in w name d = find (λ n. is_entry_at w name (slice_get w.methods n)) (own_methods (slice_get w.defs d.0))

-- that of the definition at the head of a tree; an array and the like has no methods of its own
abbrev pub entry_at : Facts → List ℕ → Ty-F Ty → Option ℕ
entry_at w name (Ty-F.Inst d parts) = entry_in w name d
entry_at w name _ = None

abbrev pub entry_of : Facts → List ℕ → Ty → Option MethId
entry_of w name t = option_map method_id (entry_at w name (out-Ty t))

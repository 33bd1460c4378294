-- What of the standard is left out: delegates (ECMA-335 II.14.6), which are the definitions with System.Delegate
-- on their chain of parents, itself too; System.Nullable (I.8.2.4); and, where the reader asks for it,
-- methods of interfaces that have a body of their own (II.12.2).
use Rattle.std.specs.Prelude.{◌≡◌, ◌⊎◌, Bool, true, ◌&&◌}
use Rattle.std.specs.List.{list_any}
use Rattle.clr_base.specs.declared.ids.DefId.{DefId}
use Rattle.type_tree.specs.declared.definition.Def.{Def}
use Rattle.type_tree.specs.World.{Facts}
use Rattle.core_types.specs.declared.core_type.CoreType.TheVariants.{Delegate, Nullable}
use Rattle.def_faults.specs.Chains.{parent, OnChain}
use Rattle.def_faults.specs.Flags.{is_interface, is_default, methods_of, of_def, is_core}

abbrev pub is_delegate : Facts → DefId → Bool
is_delegate w = is_core w Delegate

abbrev pub IsDelegate : Facts → DefId → Type 0
IsDelegate w id = OnChain (parent w) (is_delegate w) id

abbrev pub is_nullable : Facts → DefId → Bool
is_nullable w = is_core w Nullable

abbrev pub NotInProfile : Facts → DefId → Type 0
NotInProfile w id = IsDelegate w id ⊎ (is_nullable w id ≡ true)

-- an interface with an instance method that isn't abstract
abbrev pub has_default_method : Facts → Def → Bool
has_default_method w d = is_interface d && list_any is_default (methods_of w d)

abbrev pub is_with_default_method : Facts → DefId → Bool
is_with_default_method w = of_def w (has_default_method w)

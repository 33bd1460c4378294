-- The chain of parents and the interfaces of an instantiation, with its arguments put in (ECMA-335 I.8.9.9, II.10.2, II.12.2).
use Rattle.std.specs.Prelude.{◌⊎◌, ℕ, List, [], Contains}
use Rattle.type_tree.specs.declared.tree.Ty.{Ty}
use Rattle.type_tree.specs.declared.tree.Ty.TheVariants as ty
use Rattle.type_tree.specs.World.{Facts}
use Rattle.type_tree.specs.Subst.{subst_all}
use Rattle.method_slots.specs.Chains.{chain, longest_chain}

-- the instantiation of the definition n with these arguments
abbrev pub inst : ℕ → List Ty → Ty
inst n args = ty.Inst (record { 0 = n }) args

-- its chain of parents, the root first, the type itself last
abbrev pub exact_chain : Facts → ℕ → List Ty → List Ty
exact_chain w n args = subst_all args [] (chain longest_chain w n)

-- a type on the chain, or one of the interfaces, where these are those of the definition
abbrev pub IsSuper : Facts → ℕ → List Ty → List Ty → Ty → Type 0
IsSuper w n args list g = Contains (exact_chain w n args) g ⊎ Contains (subst_all args [] list) g

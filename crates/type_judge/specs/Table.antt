-- The faults that a key has by itself, and the order in which they are tested.
use Rattle.std.specs.Prelude.{◌≡◌, ◌⊎◌, Bool, true, false, cond, List, [], ◌∷◌, Option, None, Some}
use Rattle.clr_base.specs.declared.ids.DefId.{DefId}
use Rattle.type_tree.specs.declared.tree.Ty.{Ty}
use Rattle.type_tree.specs.declared.tree.Key.{Key}
use Rattle.type_tree.specs.declared.tree.Key.TheVariants.{Tree, Meth}
use Rattle.type_tree.specs.World.{Facts}
use Rattle.load_events.specs.declared.load_fault.LoadFault.{LoadFault}
use Rattle.load_events.specs.declared.load_fault.LoadFault.TheVariants as fault
use Rattle.method_slots.specs.Chains.{chain_within, longest_chain}
use Rattle.interface_maps.specs.Verdicts.{bad_override, no_method}
use Rattle.type_subs.specs.Faults.{is_constraint_fault}
use Rattle.key_faults.specs.declared.told.Told.{Told}
use Rattle.key_faults.specs.Definitions.{with_def}
use Rattle.key_faults.specs.Shapes.{has_arity_fault, has_bad_argument}
use Rattle.key_faults.specs.Faults as faults
use Rattle.type_judge.specs.declared.table.TheConstants.{ORDER}

-- ---- overrides and methods

-- The fault of a definition's slots and interfaces. An override that is bad comes before a method that is missing; a definition whose
-- chain of parents is too long, which is a fault that is tested before, has no slots.
abbrev pub slot_fault : Facts → DefId → Option LoadFault
slot_fault w d =
    cond (chain_within longest_chain w d.0)
    (cond (bad_override w d.0) (Some fault.BadOverride)
    (cond (no_method w d.0) (Some fault.NoMethod) None)) None

abbrev pub is_bad_override : Option LoadFault → Bool
is_bad_override (Some fault.BadOverride) = true
is_bad_override _ = false

abbrev pub is_no_method : Option LoadFault → Bool
is_no_method (Some fault.NoMethod) = true
is_no_method _ = false

abbrev pub has_bad_override : Facts → Ty → Bool
has_bad_override w t = with_def w (λ (d : DefId). is_bad_override (slot_fault w d)) t

abbrev pub has_no_method : Facts → Ty → Bool
has_no_method w t = with_def w (λ (d : DefId). is_no_method (slot_fault w d)) t

-- ---- the table

-- these are faults of types alone
abbrev pub of_type : (Ty → Bool) → Key → Bool
of_type p (Tree t) = p t
of_type p (Meth k) = false

abbrev pub OfType : (Ty → Type 0) → Key → Type 0
OfType P (Tree t) = P t
OfType P (Meth k) = ⊥

-- the key has this fault by itself; of a method's key Arity, BadArgument and Constraint can hold
abbrev pub Holds : Facts → Key → LoadFault → Type 0
Holds w k fault.NotFound = OfType (faults.NotFound w) k
Holds w k fault.Arity = has_arity_fault w k ≡ true
Holds w k fault.BadArgument = has_bad_argument k ≡ true
Holds w k fault.BaseCycle = of_type (faults.has_base_cycle w) k ≡ true
Holds w k fault.Expanding = OfType (faults.Expanding w) k
Holds w k fault.BadParent = of_type (faults.has_bad_parent w) k ≡ true
Holds w k fault.BadInterface = of_type (faults.has_bad_interface w) k ≡ true
Holds w k fault.BadOverride = of_type (has_bad_override w) k ≡ true
Holds w k fault.NoMethod = of_type (has_no_method w) k ≡ true
Holds w k fault.BadLayout = of_type (faults.has_bad_layout w) k ≡ true
Holds w k fault.LayoutDeep = of_type (faults.has_deep_layout w) k ≡ true
Holds w k fault.Constraint = is_constraint_fault w k ≡ true
Holds w k fault.TooLarge = ⊥
Holds w k fault.NotInProfile = OfType (faults.NotInProfile w) k

-- the first of these faults that holds, if any
abbrev pub IsFirst : (LoadFault → Type 0) → List LoadFault → Option LoadFault → Type 0
IsFirst H [] first = first ≡ None
IsFirst H (f ∷ fs) first = (H f × (first ≡ Some f)) ⊎ ((H f → ⊥) × IsFirst H fs first)

-- the fault of the key, in the order of the table
abbrev pub IsLocal : Facts → Key → Option LoadFault → Type 0
IsLocal w k found = IsFirst (Holds w k) ORDER found

-- ---- the same as it is told

abbrev pub tells : Told → Facts → Key → LoadFault → Bool
tells told w k fault.NotFound = of_type (faults.tells_not_found told w) k
tells told w k fault.Arity = has_arity_fault w k
tells told w k fault.BadArgument = has_bad_argument k
tells told w k fault.BaseCycle = of_type (faults.has_base_cycle w) k
tells told w k fault.Expanding = of_type (faults.tells_expanding told w) k
tells told w k fault.BadParent = of_type (faults.has_bad_parent w) k
tells told w k fault.BadInterface = of_type (faults.has_bad_interface w) k
tells told w k fault.BadOverride = of_type (has_bad_override w) k
tells told w k fault.NoMethod = of_type (has_no_method w) k
tells told w k fault.BadLayout = of_type (faults.has_bad_layout w) k
tells told w k fault.LayoutDeep = of_type (faults.has_deep_layout w) k
tells told w k fault.Constraint = is_constraint_fault w k
tells told w k fault.TooLarge = false
tells told w k fault.NotInProfile = of_type (faults.tells_not_in_profile told w) k

abbrev pub first_of : (LoadFault → Bool) → List LoadFault → Option LoadFault
first_of h [] = None
first_of h (f ∷ fs) = cond (h f) (Some f) (first_of h fs)

abbrev pub local_told : Told → Facts → Key → Option LoadFault
local_told told w k = first_of (tells told w k) ORDER

-- of a method's key
abbrev pub tells_of_method : Facts → Key → LoadFault → Bool
tells_of_method w k fault.Arity = has_arity_fault w k
tells_of_method w k fault.BadArgument = has_bad_argument k
tells_of_method w k fault.Constraint = is_constraint_fault w k
tells_of_method w k _ = false

-- What is told is so, of each fault and of the first.
use Rattle.std.proofs.Common.{◌≡◌, ◌↔◌, inl, inr, Bool, true, false, cond, IsTrue, List, [], ◌∷◌, Option, Some, refl, ap, ◌∙◌, sym, subst}
use Rattle.std.proofs.lemmas.Bool.{cases_Bool}
use Rattle.type_tree.specs.declared.tree.Ty.{Ty}
use Rattle.type_tree.specs.declared.tree.Key.{Key}
use Rattle.type_tree.specs.declared.tree.Key.TheVariants.{Tree, Meth}
use Rattle.type_tree.specs.World.{Facts}
use Rattle.load_events.specs.declared.load_fault.LoadFault.{LoadFault}
use Rattle.load_events.specs.declared.load_fault.LoadFault.TheVariants as fault
use Rattle.key_faults.specs.declared.told.Told.{Told}
use Rattle.key_faults.specs.Told.{IsTold}
use Rattle.key_faults.specs.Faults as faults
use Rattle.key_faults.proofs.Telling.{not_found_is, expanding_is, not_in_profile_is}
use Rattle.type_judge.specs.declared.table.TheConstants.{ORDER}
use Rattle.type_judge.specs.Table.{of_type, OfType, Holds, IsFirst, IsLocal, tells, first_of, local_told}

first_is : (h : LoadFault → Bool) (H : LoadFault → Type 0) → ((f : LoadFault) → IsTrue (h f) ↔ H f) → (fs : List LoadFault) → IsFirst H fs (first_of h fs)
first_is h H same [] = refl
first_is h H same (f ∷ fs) = elim (cases_Bool (h f)) [
  | inl e ↦ inl ((same f).0 e, ap (λ (b : Bool). cond b (Some f) (first_of h fs)) e)
  | inr e ↦ inr (
    λ x. let clash : true ≡ false = sym ((same f).1 x) ∙ e in absurd (cc),
    subst (λ (o : Option LoadFault). IsFirst H fs o) (sym (ap (λ (b : Bool). cond b (Some f) (first_of h fs)) e)) (first_is h H same fs),
  )
]

type_is : (p : Ty → Bool) (P : Ty → Type 0) → ((t : Ty) → IsTrue (p t) ↔ P t) → (k : Key) → IsTrue (of_type p k) ↔ OfType P k
type_is p P same (Tree t) = same t
type_is p P same (Meth m) = (λ x. absurd (cc), λ x. absurd x)

itself : (b : Bool) → IsTrue b ↔ (b ≡ true)
itself b = (λ x. x, λ x. x)

tells_is : (told : Told) (w : Facts) → IsTold w told → (k : Key) (f : LoadFault) → IsTrue (tells told w k f) ↔ Holds w k f
tells_is told w is k fault.NotFound = type_is (faults.tells_not_found told w) (faults.NotFound w) (λ t. not_found_is w told t is) k
tells_is told w is k fault.Arity = itself _
tells_is told w is k fault.BadArgument = itself _
tells_is told w is k fault.BaseCycle = itself _
tells_is told w is k fault.Expanding = type_is (faults.tells_expanding told w) (faults.Expanding w) (λ t. expanding_is w told t is) k
tells_is told w is k fault.BadParent = itself _
tells_is told w is k fault.BadInterface = itself _
tells_is told w is k fault.BadOverride = itself _
tells_is told w is k fault.NoMethod = itself _
tells_is told w is k fault.BadLayout = itself _
tells_is told w is k fault.LayoutDeep = itself _
tells_is told w is k fault.Constraint = itself _
tells_is told w is k fault.TooLarge = (λ x. absurd (cc), λ x. absurd x)
tells_is told w is k fault.NotInProfile = type_is (faults.tells_not_in_profile told w) (faults.NotInProfile w) (λ t. not_in_profile_is w told t is) k

-- what is told is the first fault of the table
pub local_is : (told : Told) (w : Facts) → IsTold w told → (k : Key) → IsLocal w k (local_told told w k)
local_is told w is k = first_is (tells told w k) (Holds w k) (tells_is told w is k) ORDER

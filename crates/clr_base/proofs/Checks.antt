-- A list of checks in two parts: where a check of the first part fails, it decides. Else the second part does.
use Rattle.std.proofs.Common.{◌≡◌, ℕ, zero, suc, ◌+◌, ◌<◌, ◌⊎◌, Bool, true, false, cond, List, [], ◌∷◌, ◌++◌, length, Result, Ok, Err, refl, ◌∙◌, inl, inr, arith, add-one, subst, get_or}
use Rattle.clr_base.specs.declared.image_fault.ImageFault.{ImageFault}
use Rattle.clr_base.specs.Checks.{Check, outcome, first_fault, after, each}

failed_step : {X Y : Type 0} (passes : Bool) (fault f : ImageFault) (r : Result X ImageFault) (s : Result Y ImageFault)
    → (r ≡ Err f → s ≡ Err f) → cond passes r (Err fault) ≡ Err f → cond passes s (Err fault) ≡ Err f
failed_step true fault f r s rest e = rest e
failed_step false fault f r s rest e = cc

pub outcome_failed : {X Y : Type 0} (a b : List Check) (x : X) (y : Y) (f : ImageFault)
    → outcome a x ≡ Err f → outcome (a ++ b) y ≡ Err f
outcome_failed [] b x y f e = cc
outcome_failed (c ∷ cs) b x y f e = failed_step c.passes c.fault f (outcome cs x) (outcome (cs ++ b) y) (outcome_failed cs b x y f) e

passed_step : {X Y : Type 0} (passes : Bool) (fault : ImageFault) (z : X) (r : Result X ImageFault) (s t : Result Y ImageFault)
    → (r ≡ Ok z → s ≡ t) → cond passes r (Err fault) ≡ Ok z → cond passes s (Err fault) ≡ t
passed_step true fault z r s t rest e = rest e
passed_step false fault z r s t rest e = cc

pub outcome_passed : {X Y : Type 0} (a b : List Check) (x z : X) (y : Y)
    → outcome a x ≡ Ok z → outcome (a ++ b) y ≡ outcome b y
outcome_passed [] b x z y e = refl
outcome_passed (c ∷ cs) b x z y e = passed_step c.passes c.fault z (outcome cs x) (outcome (cs ++ b) y) (outcome b y) (outcome_passed cs b x z y) e

value_step : {X : Type 0} (passes : Bool) (fault : ImageFault) (x z : X) (r : Result X ImageFault)
    → (r ≡ Ok z → z ≡ x) → cond passes r (Err fault) ≡ Ok z → z ≡ x
value_step true fault x z r rest e = rest e
value_step false fault x z r rest e = cc

-- the value of a list of checks that passes
pub outcome_value : {X : Type 0} (a : List Check) (x z : X) → outcome a x ≡ Ok z → z ≡ x
outcome_value [] x z e = cc
outcome_value (c ∷ cs) x z e = value_step c.passes c.fault x z (outcome cs x) (outcome_value cs x z) e

-- the fault doesn't depend on the value
pub outcome_of_fault : {X Y : Type 0} (a : List Check) (x : X) (y : Y) (f : ImageFault) → outcome a x ≡ Err f → outcome a y ≡ Err f
outcome_of_fault [] x y f e = cc
outcome_of_fault (c ∷ cs) x y f e = failed_step c.passes c.fault f (outcome cs x) (outcome cs y) (outcome_of_fault cs x y f) e

-- A loop over the numbers below n, which has passed those below k: the checks of k decide, or the loop goes on.
pub each_none : (checks : ℕ → List Check) → first_fault (each 0 checks) ≡ Ok (tt {0})
unfolding each
each_none checks = refl

pub each_passed : (k : ℕ) (checks : ℕ → List Check) → first_fault (each k checks) ≡ Ok (tt {0}) → first_fault (checks k) ≡ Ok (tt {0}) → outcome (each (k + 1) checks) (tt {0}) ≡ Ok (tt {0})
unfolding each
each_passed k checks before here = rw add-one (outcome_passed (each k checks) (checks k) (tt {0}) (tt {0}) (tt {0}) before ∙ here)

below_or_last : (k n : ℕ) → k < suc n → (k < n) ⊎ (k ≡ n)
below_or_last k n h = grind arith

pub each_failed : {X : Type 0} (k n : ℕ) (checks : ℕ → List Check) (x : X) (f : ImageFault) → k < n
    → first_fault (each k checks) ≡ Ok (tt {0}) → first_fault (checks k) ≡ Err f → outcome (each n checks) x ≡ Err f
unfolding each
each_failed k zero checks x f within before here = absurd (omega arith)
each_failed k (suc n) checks x f within before here =
    elim (below_or_last k n within) [
      | inl less ↦ outcome_failed (each n checks) (checks n) (tt {0}) x f (each_failed k n checks (tt {0}) f less before here)
      | inr last ↦
          outcome_passed (each n checks) (checks n) (tt {0}) (tt {0}) x (subst (λ m. first_fault (each m checks) ≡ Ok (tt {0})) last before)
          ∙ outcome_of_fault (checks n) (tt {0}) x f (subst (λ m. first_fault (checks m) ≡ Err f) last here)
    ]

append_step : {X Y : Type 0} (passes : Bool) (fault : ImageFault) (r : Result X ImageFault) (s t : Result Y ImageFault)
    → s ≡ after r t → cond passes s (Err fault) ≡ after (cond passes r (Err fault)) t
append_step true fault r s t e = e
append_step false fault r s t e = refl

-- two lists of checks, one after the other
pub outcome_append : {X : Type 0} (a b : List Check) (x : X) → outcome (a ++ b) x ≡ after (first_fault a) (outcome b x)
outcome_append [] b x = refl
outcome_append (c ∷ cs) b x = append_step c.passes c.fault (first_fault cs) (outcome (cs ++ b) x) (outcome b x) (outcome_append cs b x)

pub first_fault_append : (a b : List Check) → first_fault (a ++ b) ≡ after (first_fault a) (first_fault b)
first_fault_append a b = outcome_append a b (tt {0})

here : {X : Type 0} (passes : Bool) (fault : ImageFault) (r : Result X ImageFault) (z : X) → cond passes r (Err fault) ≡ Ok z → passes ≡ true
here true fault r z e = refl
here false fault r z e = cc

behind : {X : Type 0} (passes : Bool) (fault : ImageFault) (r : Result X ImageFault) (z : X) → cond passes r (Err fault) ≡ Ok z → r ≡ Ok z
behind true fault r z e = e
behind false fault r z e = cc

-- where all checks pass, each of them does
pub passes_at : {X : Type 0} (cs : List Check) (i : ℕ) (d : Check) (x z : X) → i < length cs → outcome cs x ≡ Ok z → (get_or cs i d).passes ≡ true
passes_at [] i d x z within e = absurd (omega arith)
passes_at (c ∷ cs) zero d x z within e = here c.passes c.fault (outcome cs x) z e
passes_at (c ∷ cs) (suc i) d x z within e = passes_at cs i d x z (omega arith) (behind c.passes c.fault (outcome cs x) z e)

-- What a refusal says of the checks.
use Rattle.std.proofs.Common.{◌≡◌, Result, Err, sym, ap, ◌∙◌, subst}
use Rattle.clr_base.specs.declared.image_fault.ImageFault.{ImageFault}
use Rattle.image_rows.specs.Refusals.{GivesOutcome}
use Rattle.image_rows.specs.declared.refusal.Refusal.{Refusal}
use Rattle.image_rows.specs.declared.refusal.Refusal.TheVariants.{Fault, Memory}

pub gives_fault : {X : Type 0} (result : Result X Refusal) (e : Refusal) (f : ImageFault) (wanted : Result X ImageFault) → result ≡ Err e → e ≡ Fault f → wanted ≡ Err f → GivesOutcome result wanted
gives_fault result e f wanted is fault fails = subst (λ r. GivesOutcome r wanted) (sym (is ∙ ap Err fault)) fails

pub gives_memory : {X : Type 0} (result : Result X Refusal) (e : Refusal) (wanted : Result X ImageFault) → result ≡ Err e → e ≡ Memory → GivesOutcome result wanted
gives_memory result e wanted is memory = subst (λ r. GivesOutcome r wanted) (sym (is ∙ ap Err memory)) (tt {0})

-- a part of the checks that refuses makes the whole refuse
pub gives_on : {X Y : Type 0} (result : Result X Refusal) (e x : Refusal) (here : Result Y ImageFault) (wanted : Result X ImageFault)
    → result ≡ Err e → e ≡ x → GivesOutcome {X = Y} (Err x) here → ((f : ImageFault) → here ≡ Err f → wanted ≡ Err f) → GivesOutcome result wanted
gives_on result e (Fault f) here wanted is same gives on = subst (λ r. GivesOutcome r wanted) (sym (is ∙ ap Err same)) (on f gives)
gives_on result e Memory here wanted is same gives on = subst (λ r. GivesOutcome r wanted) (sym (is ∙ ap Err same)) (tt {0})

-- a fault that is answered is the one of the checks
pub given_fault : {X : Type 0} (x : Refusal) (f : ImageFault) (wanted : Result X ImageFault) → x ≡ Fault f → GivesOutcome (Err x) wanted → wanted ≡ Err f
given_fault {X} x f wanted is gives = subst (λ r. GivesOutcome {X = X} (Err r) wanted) is gives

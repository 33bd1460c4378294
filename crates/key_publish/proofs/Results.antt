-- What holds of an answer, whatever it is.
use Rattle.std.proofs.Common.{Result, Ok, Err, IfOk}
use Rattle.std.specs.Result.{IfErr}

module _ {A E : Type 0} where
  pub err_is : (r : Result A E) (Q : Type 0) → Q → IfErr r (λ e. Q)
  err_is (Ok a) Q q = tt
  err_is (Err e) Q q = q

  pub err_on : (r : Result A E) (P Q : Type 0) → (P → Q) → IfErr r (λ e. P) → IfErr r (λ e. Q)
  err_on (Ok a) P Q on p = tt
  err_on (Err e) P Q on p = on p

  pub ok_on : (r : Result A E) (P Q : Type 0) → (P → Q) → IfOk r (λ e. P) → IfOk r (λ e. Q)
  ok_on (Ok a) P Q on p = on p
  ok_on (Err e) P Q on p = tt

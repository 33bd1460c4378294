-- Arguments and locals, `dup` and `pop` (III.3.34, III.3.38, III.3.43, III.3.54, III.3.61, III.3.63).
use Rattle.std.specs.Prelude.{ℕ, Bool, List, [], ◌∷◌, slice_set, Result, Ok, Err}
use Rattle.cil_state.specs.declared.form.Form.{Form}
use Rattle.cil_state.specs.declared.form.Form.TheVariants as form
use Rattle.cil_state.specs.declared.form.Variable.{Variable}
use Rattle.cil_state.specs.declared.trap.Trap.{Trap}
use Rattle.cil_state.specs.declared.trap.Trap.TheVariants as trap
use Rattle.cil_state.specs.declared.value.Value.{Value}
use Rattle.cil_state.specs.Forms.{variable, loaded, assigned}
use Rattle.cil_state.specs.Meets.{next}

module _ {H : Type 0} where
  abbrev pub load : ℕ → List (Variable H) → List (Value H) → Result (List (Value H)) Trap
  load n vs stack = next (variable vs n) (λ v. next (loaded v) (λ w. Ok (w ∷ stack)))

  abbrev pub popped : List (Value H) → Result (Value H × List (Value H)) Trap
  popped [] = Err trap.InvalidProgram
  popped (v ∷ rest) = Ok (v, rest)

  abbrev pub in_profile : Form H → Result (Unit {0}) Trap
  in_profile form.Outside = Err trap.NotInProfile
  in_profile (form.Scalar s) = Ok tt
  in_profile form.Addr = Ok tt
  in_profile (form.Val h size) = Ok tt

  abbrev pub dup : List (Value H) → Result (List (Value H)) Trap
  dup stack = next (popped stack) (λ t. Ok (t.0 ∷ t.0 ∷ t.1))

  abbrev pub drop_top : List (Value H) → Result (List (Value H)) Trap
  drop_top stack = next (popped stack) (λ t. Ok t.1)

  -- the variables where one of them has another value
  abbrev pub with_value : List (Variable H) → ℕ → Form H → Value H → List (Variable H)
  with_value vs n t w = slice_set vs n (record { form = t; value = w })

module _ {H : Type 0} (equal : H → H → Bool) where
  -- the variables and the stack after a store
  abbrev pub store : ℕ → List (Variable H) → List (Value H) → Result (List (Variable H) × List (Value H)) Trap
  store n vs stack =
      next (variable vs n) (λ v.
      next (in_profile v.form) (λ _.
      next (popped stack) (λ t.
      next (assigned equal v.form t.0) (λ w. Ok (with_value vs n v.form w, t.1)))))

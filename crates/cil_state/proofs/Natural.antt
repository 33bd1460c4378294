-- Whether names are changed before a call or after it, the call gives the same.
use Rattle.std.proofs.Common.{◌≡◌, ℕ, ◌+◌, nat_lt, Bool, true, false, List, [], ◌∷◌, map, Option, Some, None, Result, Ok, Err, slice_get, refl, ap, sym, ◌∙◌}
use Rattle.std.specs.Option.{option_map}
use Rattle.std.proofs.lemmas.List.{length-map}
use Rattle.std.proofs.lemmas.Option.{slice_get-map}
use Rattle.std.proofs.lemmas.Simd.{map-map}
use Rattle.cil_state.specs.declared.form.Form.{Form}
use Rattle.cil_state.specs.declared.form.Form.TheVariants as form
use Rattle.cil_state.specs.declared.form.Scalar.{Scalar}
use Rattle.cil_state.specs.declared.form.Scalar.TheVariants as scalar
use Rattle.cil_state.specs.declared.form.Variable.{Variable}
use Rattle.cil_state.specs.declared.limits.TheConstants.{FRAME_LIMIT}
use Rattle.cil_state.specs.declared.operand.Operand.{Operand}
use Rattle.cil_state.specs.declared.state.Frame.{Frame}
use Rattle.cil_state.specs.declared.state.State.{State}
use Rattle.cil_state.specs.declared.trap.Trap.{Trap}
use Rattle.cil_state.specs.declared.trap.Trap.TheVariants as trap
use Rattle.cil_state.specs.declared.value.Value.{Value}
use Rattle.cil_state.specs.declared.value.Value.TheVariants as value
use Rattle.cil_state.specs.Forms as spec
use Rattle.cil_state.specs.Maps.{map_value, map_values, map_form, map_variable, map_variables, map_frame, map_frames, map_state}
use Rattle.cil_state.specs.Meets.{next, guard, on_ok}
use Rattle.cil_state.specs.Operands.{operand, top, below, as_integer, as_ref, as_addr}
use Rattle.cil_state.specs.State.{enter, leave, leave_to}

-- A chain goes through a change of names link by link: a link that gives names,
pub next-natural : {A B C D : Type 0} (f : A → B) (g : C → D) (r : Result A Trap) (s : Result B Trap) (k : A → Result C Trap) (l : B → Result D Trap)
    → s ≡ on_ok f r → ((x : A) → l (f x) ≡ on_ok g (k x)) → next s l ≡ on_ok g (next r k)
next-natural f g (Ok x) s k l e h = ap (λ z. next z l) e ∙ h x
next-natural f g (Err t) s k l e h = ap (λ z. next z l) e

-- and a link that gives none.
pub next-same : {A C D : Type 0} (g : C → D) (r s : Result A Trap) (k : A → Result C Trap) (l : A → Result D Trap)
    → s ≡ r → ((x : A) → l x ≡ on_ok g (k x)) → next s l ≡ on_ok g (next r k)
next-same g (Ok x) s k l e h = ap (λ z. next z l) e ∙ h x
next-same g (Err t) s k l e h = ap (λ z. next z l) e

-- or one in which no name stands at all.
pub next-on : {A C D : Type 0} (g : C → D) (r : Result A Trap) (k : A → Result C Trap) (l : A → Result D Trap)
    → ((x : A) → l x ≡ on_ok g (k x)) → next r l ≡ on_ok g (next r k)
next-on g (Ok x) k l h = h x
next-on g (Err t) k l h = refl

module _ {A B : Type 0} (f : A → B) where
  pub operand-natural : (v : Value A) → operand (map_value f v) ≡ operand v
  operand-natural (value.Number n) = refl
  operand-natural (value.Ref r) = refl
  operand-natural (value.Addr a) = refl
  operand-natural (value.Val h bytes) = refl

  pub top-natural : (stack : List (Value A)) → top (map_values f stack) ≡ top stack
  top-natural [] = refl
  top-natural (v ∷ rest) = operand-natural v

  pub below-natural : (stack : List (Value A)) → below (map_values f stack) ≡ map_values f (below stack)
  below-natural [] = refl
  below-natural (v ∷ rest) = refl

  zero-natural : (t : Form A) → spec.zero (map_form f t) ≡ map_value f (spec.zero t)
  zero-natural (form.Scalar (scalar.Int k)) = refl
  zero-natural (form.Scalar scalar.Ref) = refl
  zero-natural form.Addr = refl
  zero-natural (form.Val h size) = refl
  zero-natural form.Outside = refl

  begun-natural : (t : Form A) → spec.begun (map_form f t) ≡ map_variable f (spec.begun t)
  begun-natural t = λ i. record { form = map_form f t; value = zero-natural t i }

  pub zeroed-natural : (forms : List (Form A)) → spec.zeroed (map (map_form f) forms) ≡ map_variables f (spec.zeroed forms)
  zeroed-natural forms = map-map spec.begun (map_form f) forms ∙ (λ i. map (λ t. begun-natural t i) forms) ∙ sym (map-map (map_variable f) spec.begun forms)

  pub variable-natural : (vs : List (Variable A)) (n : ℕ) → spec.variable (map_variables f vs) n ≡ on_ok (map_variable f) (spec.variable vs n)
  variable-natural vs n = ap spec.found (slice_get-map (map_variable f) vs n) ∙ by_cases (slice_get vs n)
    where
      by_cases : (o : Option (Variable A)) → spec.found (option_map (map_variable f) o) ≡ on_ok (map_variable f) (spec.found o)
      by_cases (Some v) = refl
      by_cases None = refl

  is_outside-natural : (t : Form A) → spec.is_outside (map_form f t) ≡ spec.is_outside t
  is_outside-natural (form.Scalar s) = refl
  is_outside-natural form.Addr = refl
  is_outside-natural (form.Val h size) = refl
  is_outside-natural form.Outside = refl

  unless-natural : (b : Bool) (v : Value A) → spec.unless b (map_value f v) ≡ on_ok (map_value f) (spec.unless b v)
  unless-natural true v = refl
  unless-natural false v = refl

  pub loaded-natural : (v : Variable A) → spec.loaded (map_variable f v) ≡ on_ok (map_value f) (spec.loaded v)
  loaded-natural v = ap (λ b. spec.unless b (map_value f v.value)) (is_outside-natural v.form) ∙ unless-natural (spec.is_outside v.form) v.value

  scalar_assigned-natural : (s : Scalar) (o : Operand) → spec.scalar_assigned {H = B} s o ≡ on_ok (map_value f) (spec.scalar_assigned {H = A} s o)
  scalar_assigned-natural (scalar.Int k) o = next-on (map_value f) (as_integer o) _ _ (λ n. next-on (map_value f) (spec.kept k n) _ _ (λ m. refl))
  scalar_assigned-natural scalar.Ref o = next-on (map_value f) (as_ref o) _ _ (λ r. refl)

  as_val-natural : (v : Value A) → spec.as_val (map_value f v) ≡ on_ok (λ t. (f t.0, t.1)) (spec.as_val v)
  as_val-natural (value.Number n) = refl
  as_val-natural (value.Ref r) = refl
  as_val-natural (value.Addr a) = refl
  as_val-natural (value.Val h bytes) = refl

  pub enter-natural : (x : Frame A) (s : State A) → enter (map_frame f x) (map_state f s) ≡ on_ok (map_state f) (enter x s)
  enter-natural x s = next-same _ _ _ _ _ (ap (λ n. guard (nat_lt (n + 1) FRAME_LIMIT) trap.StackOverflow) (length-map s.below (map_frame f))) (λ u. refl)

  leave_to-natural : (s : State A) (xs : List (Frame A)) → leave_to (map_state f s) (map_frames f xs) ≡ ((leave_to s xs).0, map_state f (leave_to s xs).1)
  leave_to-natural s [] = refl
  leave_to-natural s (x ∷ xs) = refl

  pub leave-natural : (s : State A) → leave (map_state f s) ≡ ((leave s).0, map_state f (leave s).1)
  leave-natural s = leave_to-natural s s.below

-- What compares types, where the names keep equality.
module _ {A B : Type 0} (f : A → B) (equal : A → A → Bool) (same : B → B → Bool) (keeps : (x y : A) → same (f x) (f y) ≡ equal x y) where
  pub assigned-natural : (t : Form A) (v : Value A) → spec.assigned same (map_form f t) (map_value f v) ≡ on_ok (map_value f) (spec.assigned equal t v)
  assigned-natural (form.Scalar s) v = ap (spec.scalar_assigned s) (operand-natural f v) ∙ scalar_assigned-natural f s (operand v)
  assigned-natural form.Addr v = next-same _ _ _ _ _ (ap as_addr (operand-natural f v)) (λ a. refl)
  assigned-natural (form.Val h size) v =
      next-natural _ _ _ _ _ _ (as_val-natural f v) (λ t. next-same _ _ _ _ _ (ap (λ b. guard b trap.InvalidProgram) (keeps t.0 h)) (λ u. refl))
  assigned-natural form.Outside v = refl

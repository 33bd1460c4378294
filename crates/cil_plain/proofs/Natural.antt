-- Whether names are changed before an instruction of a frame or after it, it does the same.
use Rattle.std.proofs.Common.{◌≡◌, ℕ, Bool, true, false, List, [], ◌∷◌, Option, Some, None, Result, Ok, slice_get, refl, ap, ap₂, sym, ◌∙◌}
use Rattle.std.proofs.lemmas.List.{map-set}
use Rattle.cil_ops.specs.declared.operations.BinOp.{BinOp}
use Rattle.cil_ops.specs.declared.operations.CmpOp.{CmpOp}
use Rattle.cil_ops.specs.declared.operations.ConvOp.{ConvOp}
use Rattle.cil_ops.specs.Convert.{convert_of}
use Rattle.obj_heap.specs.declared.address.ObjRef.{ObjRef}
use Rattle.cil_state.specs.declared.form.Form.{Form}
use Rattle.cil_state.specs.declared.form.Form.TheVariants as form
use Rattle.cil_state.specs.declared.form.Variable.{Variable}
use Rattle.cil_state.specs.declared.state.Frame.{Frame}
use Rattle.cil_state.specs.declared.state.State.{State}
use Rattle.cil_state.specs.declared.trap.Trap.{Trap}
use Rattle.cil_state.specs.declared.value.Value.{Value}
use Rattle.cil_state.specs.declared.value.Value.TheVariants as value
use Rattle.cil_state.specs.Maps.{map_value, map_values, map_form, map_variable, map_variables, map_frame, map_state}
use Rattle.cil_state.specs.Meets.{on_ok}
use Rattle.cil_state.specs.Operands.{top, below, both, as_number, as_ref}
use Rattle.cil_state.specs.State.{with_stack}
use Rattle.cil_state.proofs.Natural.{next-natural, next-same, next-on, top-natural, below-natural, variable-natural, loaded-natural, assigned-natural}
use Rattle.cil_plain.specs.declared.op.Plain.{Plain}
use Rattle.cil_plain.specs.declared.op.Plain.TheVariants as op
use Rattle.cil_plain.specs.Numbers as number
use Rattle.cil_plain.specs.Branches as branch
use Rattle.cil_plain.specs.Locals as local
use Rattle.cil_plain.specs.Plain as spec

module _ {A B : Type 0} (f : A → B) where
  pub second-natural : (stack : List (Value A)) → top (below (map_values f stack)) ≡ top (below stack)
  second-natural stack = ap top (below-natural f stack) ∙ top-natural f (below stack)

  pub rest-natural : (stack : List (Value A)) → below (below (map_values f stack)) ≡ map_values f (below (below stack))
  rest-natural stack = ap below (below-natural f stack) ∙ below-natural f (below stack)

  binary-natural : (o : BinOp) (stack : List (Value A)) → number.binary o (map_values f stack) ≡ on_ok (map_values f) (number.binary o stack)
  binary-natural o stack =
      next-same _ _ _ _ _ (ap₂ (λ b a. both (as_number b) (as_number a)) (top-natural f stack) (second-natural stack)) (λ t.
      next-on (map_values f) (number.computed o t.lower t.upper) _ _ (λ n. ap (λ z. Ok (value.Number n ∷ z)) (rest-natural stack)))

  convert-natural : (o : ConvOp) (stack : List (Value A)) → number.convert o (map_values f stack) ≡ on_ok (map_values f) (number.convert o stack)
  convert-natural o stack = next-same _ _ _ _ _ (ap as_number (top-natural f stack)) (λ n. ap (λ z. Ok (value.Number (convert_of o n) ∷ z)) (below-natural f stack))

  pop_compared-natural : (o : CmpOp) (stack : List (Value A)) → number.pop_compared o (map_values f stack) ≡ on_ok (λ t. (t.0, map_values f t.1)) (number.pop_compared o stack)
  pop_compared-natural o stack =
      next-same _ _ _ _ _ (ap₂ (number.compared o) (top-natural f stack) (second-natural stack)) (λ holds. ap (λ z. Ok (holds, z)) (rest-natural stack))

  compare-natural : (o : CmpOp) (stack : List (Value A)) → number.compare o (map_values f stack) ≡ on_ok (map_values f) (number.compare o stack)
  compare-natural o stack = next-natural _ _ _ _ _ _ (pop_compared-natural o stack) (λ t. refl)

  jump-natural : (target : Option ℕ) (x : Frame A) → branch.jump target (map_frame f x) ≡ on_ok (map_frame f) (branch.jump target x)
  jump-natural (Some place) x = refl
  jump-natural None x = refl

  goes-natural : (taken : Bool) (target : Option ℕ) (x : Frame A) → branch.goes taken target (map_frame f x) ≡ on_ok (map_frame f) (branch.goes taken target x)
  goes-natural true target x = jump-natural target x
  goes-natural false target x = refl

  jump_if-natural : (truth : Bool) (target : Option ℕ) (x : Frame A) → branch.jump_if truth target (map_frame f x) ≡ on_ok (map_frame f) (branch.jump_if truth target x)
  jump_if-natural truth target x =
      next-same _ _ _ _ _ (ap branch.as_truth (top-natural f x.stack)) (λ b.
      ap (λ z. branch.goes (branch.is_taken truth b) target (with_stack (map_frame f x) z)) (below-natural f x.stack)
      ∙ goes-natural (branch.is_taken truth b) target (with_stack x (below x.stack)))

  jump_where-natural : (o : CmpOp) (target : Option ℕ) (x : Frame A) → branch.jump_where o target (map_frame f x) ≡ on_ok (map_frame f) (branch.jump_where o target x)
  jump_where-natural o target x = next-natural _ _ _ _ _ _ (pop_compared-natural o x.stack) (λ t. goes-natural t.0 target (with_stack x t.1))

  to_case-natural : (found : Option (Option ℕ)) (x : Frame A) → branch.to_case found (map_frame f x) ≡ on_ok (map_frame f) (branch.to_case found x)
  to_case-natural (Some target) x = jump-natural target x
  to_case-natural None x = refl

  switch-natural : (targets : List (Option ℕ)) (x : Frame A) → branch.switch targets (map_frame f x) ≡ on_ok (map_frame f) (branch.switch targets x)
  switch-natural targets x =
      next-same _ _ _ _ _ (ap branch.as_case (top-natural f x.stack)) (λ n.
      ap (λ z. branch.to_case (slice_get targets n) (with_stack (map_frame f x) z)) (below-natural f x.stack)
      ∙ to_case-natural (slice_get targets n) (with_stack x (below x.stack)))

  load-natural : (n : ℕ) (vs : List (Variable A)) (stack : List (Value A)) → local.load n (map_variables f vs) (map_values f stack) ≡ on_ok (map_values f) (local.load n vs stack)
  load-natural n vs stack = next-natural _ _ _ _ _ _ (variable-natural f vs n) (λ v. next-natural _ _ _ _ _ _ (loaded-natural f v) (λ w. refl))

  popped-natural : (stack : List (Value A)) → local.popped (map_values f stack) ≡ on_ok (λ t. (map_value f t.0, map_values f t.1)) (local.popped stack)
  popped-natural [] = refl
  popped-natural (v ∷ rest) = refl

  in_profile-natural : (t : Form A) → local.in_profile (map_form f t) ≡ local.in_profile t
  in_profile-natural (form.Scalar s) = refl
  in_profile-natural form.Addr = refl
  in_profile-natural (form.Val h size) = refl
  in_profile-natural form.Outside = refl

  dup-natural : (stack : List (Value A)) → local.dup (map_values f stack) ≡ on_ok (map_values f) (local.dup stack)
  dup-natural stack = next-natural _ _ _ _ _ _ (popped-natural stack) (λ t. refl)

  drop_top-natural : (stack : List (Value A)) → local.drop_top (map_values f stack) ≡ on_ok (map_values f) (local.drop_top stack)
  drop_top-natural stack = next-natural _ _ _ _ _ _ (popped-natural stack) (λ t. refl)

  thrown-natural : (r : Option ObjRef) → spec.thrown r ≡ on_ok (map_values f) (spec.thrown r)
  thrown-natural None = refl
  thrown-natural (Some r) = refl

  throw-natural : (stack : List (Value A)) → spec.throw (map_values f stack) ≡ on_ok (map_values f) (spec.throw stack)
  throw-natural stack = next-same _ _ _ _ _ (ap as_ref (top-natural f stack)) thrown-natural

  on_stack-natural : (x : Frame A) (r : Result (List (Value A)) Trap) (q : Result (List (Value B)) Trap) → q ≡ on_ok (map_values f) r
      → spec.on_stack (map_frame f x) q ≡ on_ok (map_frame f) (spec.on_stack x r)
  on_stack-natural x r q e = next-natural _ _ _ _ _ _ e (λ stack. refl)

-- What compares types, where the names keep equality.
module _ {A B : Type 0} (f : A → B) (equal : A → A → Bool) (same : B → B → Bool) (keeps : (x y : A) → same (f x) (f y) ≡ equal x y) where
  store-natural : (n : ℕ) (vs : List (Variable A)) (stack : List (Value A))
      → local.store same n (map_variables f vs) (map_values f stack) ≡ on_ok (λ t. (map_variables f t.0, map_values f t.1)) (local.store equal n vs stack)
  store-natural n vs stack =
      next-natural _ _ _ _ _ _ (variable-natural f vs n) (λ v.
      next-same _ _ _ _ _ (in_profile-natural f v.form) (λ u.
      next-natural _ _ _ _ _ _ (popped-natural f stack) (λ t.
      next-natural _ _ _ _ _ _ (assigned-natural f equal same keeps v.form t.0) (λ w.
      ap (λ z. Ok (z, map_values f t.1)) (sym (map-set (map_variable f) vs n (record { form = v.form; value = w })))))))

  local-natural : (o : Plain) (x : Frame A) → spec.local same o (map_frame f x) ≡ on_ok (map_frame f) (spec.local equal o x)
  local-natural op.Nop x = refl
  local-natural (op.Const n) x = refl
  local-natural op.Null x = refl
  local-natural (op.LoadArg n) x = on_stack-natural f x _ _ (load-natural f n x.args x.stack)
  local-natural (op.StoreArg n) x = next-natural _ _ _ _ _ _ (store-natural n x.args x.stack) (λ t. refl)
  local-natural (op.LoadLocal n) x = on_stack-natural f x _ _ (load-natural f n x.locals x.stack)
  local-natural (op.StoreLocal n) x = next-natural _ _ _ _ _ _ (store-natural n x.locals x.stack) (λ t. refl)
  local-natural op.Dup x = on_stack-natural f x _ _ (dup-natural f x.stack)
  local-natural op.Pop x = on_stack-natural f x _ _ (drop_top-natural f x.stack)
  local-natural (op.Binary o) x = on_stack-natural f x _ _ (binary-natural f o x.stack)
  local-natural (op.Convert o) x = on_stack-natural f x _ _ (convert-natural f o x.stack)
  local-natural (op.Compare o) x = on_stack-natural f x _ _ (compare-natural f o x.stack)
  local-natural (op.Jump target) x = jump-natural f target x
  local-natural (op.JumpIf truth target) x = jump_if-natural f truth target x
  local-natural (op.JumpWhere o target) x = jump_where-natural f o target x
  local-natural (op.Switch targets) x = switch-natural f targets x
  local-natural op.Throw x = on_stack-natural f x _ _ (throw-natural f x.stack)

  pub plain-natural : (o : Plain) (s : State A) → spec.plain same o (map_state f s) ≡ on_ok (map_state f) (spec.plain equal o s)
  plain-natural o s = next-natural _ _ _ _ _ _ (local-natural o s.top) (λ x. refl)

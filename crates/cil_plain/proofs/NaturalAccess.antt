-- Whether names are changed before an access to an object or after it, it does the same.
use Rattle.std.proofs.Common.{◌≡◌, ℕ, Bool, List, Option, Some, None, Result, Ok, Err, refl, ap, ap₂, ◌∙◌}
use Rattle.std.specs.Option.{option_map}
use Rattle.cil_ops.specs.declared.number.Num.{Num}
use Rattle.cil_ops.specs.declared.number.Num.TheVariants.{I8}
use Rattle.std.specs.Prelude.{pos}
use Rattle.obj_heap.specs.declared.address.Address.{Address}
use Rattle.obj_heap.specs.declared.address.ObjRef.{ObjRef}
use Rattle.obj_heap.specs.Objects.{Object, map_objects}
use Rattle.obj_heap.specs.Calls as heap
use Rattle.obj_heap.proofs.Natural.{find-natural, handle_of-natural, length_of-natural, kind_at-natural, read_at-natural, write_at-natural}
use Rattle.cil_state.specs.declared.form.Scalar.{Scalar}
use Rattle.cil_state.specs.declared.form.Scalar.TheVariants as scalar
use Rattle.cil_state.specs.declared.operand.Operands.{Operands}
use Rattle.cil_state.specs.declared.state.State.{State}
use Rattle.cil_state.specs.declared.trap.Trap.{Trap}
use Rattle.cil_state.specs.declared.trap.Trap.TheVariants as trap
use Rattle.cil_state.specs.declared.value.Value.{Value}
use Rattle.cil_state.specs.declared.value.Value.TheVariants as value
use Rattle.cil_state.specs.Forms.{width}
use Rattle.cil_state.specs.Maps.{map_value, map_values, map_state}
use Rattle.cil_state.specs.Meets.{next, guard, on_ok}
use Rattle.cil_state.specs.Operands.{top, below, both, as_number, as_ref}
use Rattle.cil_state.specs.State.{pushed}
use Rattle.cil_state.proofs.Natural.{next-natural, next-same, next-on, top-natural, below-natural}
use Rattle.cil_plain.specs.Access as spec
use Rattle.cil_plain.specs.Elements as element
use Rattle.cil_plain.specs.Fields as field
use Rattle.cil_plain.proofs.Natural.{second-natural, rest-natural}

module _ {A B : Type 0} (f : A → B) where
  made-natural : (s : List (Object A)) (r : Option ObjRef) → spec.made (map_objects f s) r ≡ spec.made s r
  made-natural s None = refl
  made-natural s (Some r) = ap spec.or_null (find-natural f s r.0)

  type_at-natural : (s : List (Object A)) (r : Result ObjRef Trap) → spec.type_at (map_objects f s) r ≡ option_map f (spec.type_at s r)
  type_at-natural s (Ok r) = handle_of-natural f s r
  type_at-natural s (Err t) = refl

  pub type_of-natural : (s : List (Object A)) (r : Option ObjRef) → spec.type_of (map_objects f s) r ≡ option_map f (spec.type_of s r)
  type_of-natural s r = ap (spec.type_at (map_objects f s)) (made-natural s r) ∙ type_at-natural s (spec.made s r)

  there-natural : (s : List (Object A)) (p : Address) (t : Scalar)
      → guard (spec.is_there (map_objects f s) p t) trap.InvalidProgram ≡ guard (spec.is_there s p t) trap.InvalidProgram
  there-natural s p t = ap (λ k. guard (spec.holds t k) trap.InvalidProgram) (kind_at-natural f s p (width t))

  held-natural : (s : List (Object A)) (t : Scalar) (n : ℕ) → spec.held (map_objects f s) t n ≡ map_value f (spec.held s t n)
  held-natural s (scalar.Int k) n = refl
  held-natural s scalar.Ref n = ap value.Ref (find-natural f s n)

  load_at-natural : (s : List (Object A)) (p : Address) (t : Scalar) → spec.load_at (map_objects f s) p t ≡ on_ok (map_value f) (spec.load_at s p t)
  load_at-natural s p t =
      next-same _ _ _ _ _ (there-natural s p t) (λ u.
      ap Ok (ap (spec.held (map_objects f s) t) (read_at-natural f s p (width t)) ∙ held-natural s t (heap.read_at s p (width t))))

  store_at-natural : (s : List (Object A)) (p : Address) (t : Scalar) (n : ℕ) → spec.store_at (map_objects f s) p t n ≡ on_ok (map_objects f) (spec.store_at s p t n)
  store_at-natural s p t n = next-same _ _ _ _ _ (there-natural s p t) (λ u. ap Ok (write_at-natural f s p (width t) n))

  pub pop_object-natural : (stack : List (Value A)) → field.pop_object (map_values f stack) ≡ on_ok (λ t. (t.0, map_values f t.1)) (field.pop_object stack)
  pop_object-natural stack = next-same _ _ _ _ _ (ap as_ref (top-natural f stack)) (λ r. ap (λ z. Ok (r, z)) (below-natural f stack))

  pub pop_store-natural : (t : Scalar) (stack : List (Value A)) → field.pop_store t (map_values f stack) ≡ on_ok (λ t. (t.0, map_values f t.1)) (field.pop_store t stack)
  pop_store-natural t stack =
      next-same _ _ _ _ _ (ap₂ (λ b a. both (spec.bits t b) (as_ref a)) (top-natural f stack) (second-natural f stack)) (λ o. ap (λ z. Ok (o, z)) (rest-natural f stack))

  pub load_field-natural : (t : Scalar) (offset : ℕ) (r : Option ObjRef) (s : State A) → field.load_field t offset r (map_state f s) ≡ on_ok (map_state f) (field.load_field t offset r s)
  load_field-natural t offset r s =
      next-same _ _ _ _ _ (made-natural s.heap r) (λ object.
      next-natural _ _ _ _ _ _ (load_at-natural s.heap (record { object = object; offset = offset }) t) (λ v. refl))

  pub store_field-natural : (t : Scalar) (offset : ℕ) (o : Operands ℕ (Option ObjRef)) (s : State A)
      → field.store_field t offset o (map_state f s) ≡ on_ok (map_state f) (field.store_field t offset o s)
  store_field-natural t offset o s =
      next-same _ _ _ _ _ (made-natural s.heap o.lower) (λ object.
      next-natural _ _ _ _ _ _ (store_at-natural s.heap (record { object = object; offset = offset }) t o.upper) (λ objects. refl))

  pub pop_element-natural : (stack : List (Value A)) → element.pop_element (map_values f stack) ≡ on_ok (λ t. (t.0, map_values f t.1)) (element.pop_element stack)
  pop_element-natural stack =
      next-same _ _ _ _ _ (ap₂ (λ b a. both (as_number b) (as_ref a)) (top-natural f stack) (second-natural f stack)) (λ o. ap (λ z. Ok (o, z)) (rest-natural f stack))

  third-natural : (stack : List (Value A)) → top (below (below (map_values f stack))) ≡ top (below (below stack))
  third-natural stack = ap top (rest-natural f stack) ∙ top-natural f (below (below stack))

  below_three-natural : (stack : List (Value A)) → below (below (below (map_values f stack))) ≡ map_values f (below (below (below stack)))
  below_three-natural stack = ap below (rest-natural f stack) ∙ below-natural f (below (below stack))

  pub pop_element_store-natural : (t : Scalar) (stack : List (Value A))
      → element.pop_element_store t (map_values f stack) ≡ on_ok (λ t. (t.0, map_values f t.1)) (element.pop_element_store t stack)
  pop_element_store-natural t stack =
      next-same _ _ _ _ _ (ap₂ both (ap (spec.bits t) (top-natural f stack)) (ap₂ (λ b a. both (as_number b) (as_ref a)) (second-natural f stack) (third-natural stack))) (λ o.
      ap (λ z. Ok (o, z)) (below_three-natural stack))

  element-natural : (e : Option Scalar) (t : Scalar) (o : Operands Num (Option ObjRef)) (s : List (Object A)) → element.element e t o (map_objects f s) ≡ element.element e t o s
  element-natural e t o s =
      ap₂ (λ r (l : ObjRef → ℕ). next r (λ array. next (guard (element.are_elements e t) trap.InvalidProgram) (λ u.
      next (element.in_range o.upper (l array)) (λ k. Ok (element.element_at array t k)))))
      (made-natural s o.lower) (λ i array. length_of-natural f s array i)

  pub load_element-natural : (e : Option Scalar) (t : Scalar) (o : Operands Num (Option ObjRef)) (s : State A)
      → element.load_element e t o (map_state f s) ≡ on_ok (map_state f) (element.load_element e t o s)
  load_element-natural e t o s =
      next-same _ _ _ _ _ (element-natural e t o s.heap) (λ p. next-natural _ _ _ _ _ _ (load_at-natural s.heap p t) (λ v. refl))

  pub store_element-natural : (e : Option Scalar) (t : Scalar) (fits : Bool) (o : Operands ℕ (Operands Num (Option ObjRef))) (s : State A)
      → element.store_element e t fits o (map_state f s) ≡ on_ok (map_state f) (element.store_element e t fits o s)
  store_element-natural e t fits o s =
      next-same _ _ _ _ _ (element-natural e t o.lower s.heap) (λ p.
      next-on (map_state f) (guard fits trap.ArrayMismatch) _ _ (λ u.
      next-natural _ _ _ _ _ _ (store_at-natural s.heap p t o.upper) (λ objects. refl)))

  pub load_length-natural : (is_array : Bool) (r : Option ObjRef) (s : State A)
      → element.load_length is_array r (map_state f s) ≡ on_ok (map_state f) (element.load_length is_array r s)
  load_length-natural is_array r s =
      next-same _ _ _ _ _ (made-natural s.heap r) (λ array.
      next-on (map_state f) (guard is_array trap.InvalidProgram) _ _ (λ u.
      ap (λ n. Ok (pushed (map_state f s) (value.Number (I8 (pos n))))) (length_of-natural f s.heap array)))

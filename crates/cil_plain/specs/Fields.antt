-- Fields of objects, at their offsets (III.4.10, III.4.28). Operands of a wrong kind trap before a null object.
use Rattle.std.specs.Prelude.{ℕ, List, Option, Result, Ok}
use Rattle.obj_heap.specs.declared.address.ObjRef.{ObjRef}
use Rattle.cil_state.specs.declared.form.Scalar.{Scalar}
use Rattle.cil_state.specs.declared.operand.Operands.{Operands}
use Rattle.cil_state.specs.declared.state.State.{State}
use Rattle.cil_state.specs.declared.trap.Trap.{Trap}
use Rattle.cil_state.specs.declared.value.Value.{Value}
use Rattle.cil_state.specs.Meets.{next}
use Rattle.cil_state.specs.Operands.{top, below, both, as_ref}
use Rattle.cil_state.specs.State.{pushed, with_heap}
use Rattle.cil_plain.specs.Access.{bits, made, load_at, store_at}

module _ {H : Type 0} where
  -- the operand of `ldfld` and of `ldlen`
  abbrev pub pop_object : List (Value H) → Result (Option ObjRef × List (Value H)) Trap
  pop_object stack = next (as_ref (top stack)) (λ r. Ok (r, below stack))

  -- the operands of `stfld`: what is written, above the object
  abbrev pub pop_store : Scalar → List (Value H) → Result (Operands ℕ (Option ObjRef) × List (Value H)) Trap
  pop_store t stack = next (both (bits t (top stack)) (as_ref (top (below stack)))) (λ o. Ok (o, below (below stack)))

  abbrev pub load_field : Scalar → ℕ → Option ObjRef → State H → Result (State H) Trap
  load_field t offset r s =
      next (made s.heap r) (λ object.
      next (load_at s.heap (record { object = object; offset = offset }) t) (λ v. Ok (pushed s v)))

  abbrev pub store_field : Scalar → ℕ → Operands ℕ (Option ObjRef) → State H → Result (State H) Trap
  store_field t offset o s =
      next (made s.heap o.lower) (λ object.
      next (store_at s.heap (record { object = object; offset = offset }) t o.upper) (λ objects. Ok (with_heap s objects)))

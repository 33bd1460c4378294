-- Elements of arrays (III.4.7, III.4.12, III.4.26). Of the traps at one point the earlier one comes first: operands of a wrong kind, an array whose elements
-- aren't what the instruction takes, then an index outside, then an element that may not stand there.
use Rattle.std.specs.Prelude.{ℕ, ◌+◌, ◌*◌, ◌==◌, nat_lt, Bool, true, false, ◌&&◌, ℤ, pos, negsuc, List, Option, None, Some, Result, Ok, Err}
use Rattle.cil_ops.specs.declared.number.Num.{Num}
use Rattle.cil_ops.specs.declared.number.Num.TheVariants.{I8}
use Rattle.cil_ops.specs.Number.{integer_of}
use Rattle.obj_heap.specs.declared.address.Address.{Address}
use Rattle.obj_heap.specs.declared.address.ObjRef.{ObjRef}
use Rattle.obj_heap.specs.declared.room.TheConstants.{HEAP_LIMIT}
use Rattle.obj_heap.specs.Objects.{Object}
use Rattle.obj_heap.specs.Calls as heap
use Rattle.cil_state.specs.declared.form.Scalar.{Scalar}
use Rattle.cil_state.specs.declared.form.Scalar.TheVariants as scalar
use Rattle.cil_state.specs.declared.operand.Operands.{Operands}
use Rattle.cil_state.specs.declared.state.State.{State}
use Rattle.cil_state.specs.declared.trap.Trap.{Trap}
use Rattle.cil_state.specs.declared.trap.Trap.TheVariants as trap
use Rattle.cil_state.specs.declared.value.Value.{Value}
use Rattle.cil_state.specs.declared.value.Value.TheVariants as value
use Rattle.cil_state.specs.Forms.{int_width, width}
use Rattle.cil_state.specs.Meets.{next, guard}
use Rattle.cil_state.specs.Operands.{top, below, both, as_number, as_ref}
use Rattle.cil_state.specs.State.{pushed, with_heap}
use Rattle.cil_plain.specs.Access.{bits, made, load_at, store_at}

-- an instruction for integers takes those of its width, and one for references takes references
abbrev pub is_alike : Scalar → Scalar → Bool
is_alike (scalar.Int k) (scalar.Int l) = int_width k == int_width l
is_alike scalar.Ref scalar.Ref = true
is_alike _ _ = false

abbrev pub are_elements : Option Scalar → Scalar → Bool
are_elements (Some e) t = is_alike e t
are_elements None t = false

-- the element of that number, of so many; no array has as many as a heap has bytes
abbrev pub place_in : ℤ → ℕ → Result ℕ Trap
place_in (pos k) count = next (guard (nat_lt k count && nat_lt k HEAP_LIMIT) trap.IndexRange) (λ _. Ok k)
place_in (negsuc k) count = Err trap.IndexRange

abbrev pub in_range : Num → ℕ → Result ℕ Trap
in_range index count = place_in (integer_of index) count

-- the elements stand behind 16 bytes
abbrev pub element_at : ObjRef → Scalar → ℕ → Address
element_at array t k = record { object = array; offset = 16 + width t * k }

module _ {H : Type 0} where
  -- an index above an array
  abbrev pub indexed : List (Value H) → Result (Operands Num (Option ObjRef)) Trap
  indexed stack = both (as_number (top stack)) (as_ref (top (below stack)))

  -- the operands of `ldelem`
  abbrev pub pop_element : List (Value H) → Result (Operands Num (Option ObjRef) × List (Value H)) Trap
  pop_element stack = next (indexed stack) (λ o. Ok (o, below (below stack)))

  -- the operands of `stelem`: what is written, above the index, above the array
  abbrev pub pop_element_store : Scalar → List (Value H) → Result (Operands ℕ (Operands Num (Option ObjRef)) × List (Value H)) Trap
  pop_element_store t stack =
      next (both (bits t (top stack)) (indexed (below stack))) (λ o. Ok (o, below (below (below stack))))

  -- the place of an element; `elements` is what those of the array are, none where they are neither integers nor references, or where there is no array
  abbrev pub element : Option Scalar → Scalar → Operands Num (Option ObjRef) → List (Object H) → Result Address Trap
  element elements t o s =
      next (made s o.lower) (λ array.
      next (guard (are_elements elements t) trap.InvalidProgram) (λ _.
      next (in_range o.upper (heap.length_of s array)) (λ k. Ok (element_at array t k))))

  abbrev pub load_element : Option Scalar → Scalar → Operands Num (Option ObjRef) → State H → Result (State H) Trap
  load_element elements t o s =
      next (element elements t o s.heap) (λ p.
      next (load_at s.heap p t) (λ v. Ok (pushed s v)))

  abbrev pub store_element : Option Scalar → Scalar → Bool → Operands ℕ (Operands Num (Option ObjRef)) → State H → Result (State H) Trap
  store_element elements t fits o s =
      next (element elements t o.lower s.heap) (λ p.
      next (guard fits trap.ArrayMismatch) (λ _.
      next (store_at s.heap p t o.upper) (λ objects. Ok (with_heap s objects))))

  abbrev pub load_length : Bool → Option ObjRef → State H → Result (State H) Trap
  load_length is_array r s =
      next (made s.heap r) (λ array.
      next (guard is_array trap.InvalidProgram) (λ _.
      Ok (pushed s (value.Number (I8 (pos (heap.length_of s.heap array)))))))

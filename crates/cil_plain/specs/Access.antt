-- Places in objects, as values on the stack (III.1.1.1).
use Rattle.std.specs.Prelude.{ℕ, Bool, true, false, List, Option, None, Some, Result, Ok, Err}
use Rattle.std.specs.Int.{w64}
use Rattle.cil_ops.specs.declared.number.Num.{Num}
use Rattle.cil_ops.specs.declared.number.Num.TheVariants.{I8}
use Rattle.cil_ops.specs.Convert.{convert_of}
use Rattle.cil_ops.specs.Number.{integer_of, unsigned, signed}
use Rattle.obj_heap.specs.declared.address.Address.{Address}
use Rattle.obj_heap.specs.declared.address.ObjRef.{ObjRef}
use Rattle.obj_heap.specs.declared.address.PlaceKind.{PlaceKind}
use Rattle.obj_heap.specs.declared.address.PlaceKind.TheVariants as place
use Rattle.obj_heap.specs.Objects.{Object}
use Rattle.obj_heap.specs.Calls as heap
use Rattle.cil_state.specs.declared.form.IntKind.{IntKind}
use Rattle.cil_state.specs.declared.form.Scalar.{Scalar}
use Rattle.cil_state.specs.declared.form.Scalar.TheVariants as scalar
use Rattle.cil_state.specs.declared.operand.Operand.{Operand}
use Rattle.cil_state.specs.declared.trap.Trap.{Trap}
use Rattle.cil_state.specs.declared.trap.Trap.TheVariants as trap
use Rattle.cil_state.specs.declared.value.Value.{Value}
use Rattle.cil_state.specs.declared.value.Value.TheVariants as value
use Rattle.cil_state.specs.Forms.{width, is_wide, takes, conversion}
use Rattle.cil_state.specs.Meets.{next, guard}
use Rattle.cil_state.specs.Operands.{as_integer, as_ref}

abbrev pub or_null : Option ObjRef → Result ObjRef Trap
or_null (Some r) = Ok r
or_null None = Err trap.NullReference

abbrev pub holds : Scalar → PlaceKind → Bool
holds (scalar.Int k) place.Numbers = true
holds scalar.Ref place.Reference = true
holds _ _ = false

-- what a store to a place of an integer writes: it has 64 bits where the place does
abbrev pub int_bits : IntKind → Num → Result ℕ Trap
int_bits k n = next (guard (takes (is_wide k) n) trap.InvalidProgram) (λ _. Ok (unsigned w64 (integer_of n)))

-- the number of an object, 0 for null
abbrev pub number_of : Option ObjRef → ℕ
number_of None = 0
number_of (Some r) = r.0

-- what a store writes, of which the place takes the lowest bytes
abbrev pub bits : Scalar → Operand → Result ℕ Trap
bits (scalar.Int k) o = next (as_integer o) (int_bits k)
bits scalar.Ref o = next (as_ref o) (λ r. Ok (number_of r))

module _ {H : Type 0} where
  -- the object of a reference
  abbrev pub made : List (Object H) → Option ObjRef → Result ObjRef Trap
  made s None = Err trap.NullReference
  made s (Some r) = or_null (heap.find s r.0)

  abbrev pub type_at : List (Object H) → Result ObjRef Trap → Option H
  type_at s (Ok r) = heap.handle_of s r
  type_at s (Err t) = None

  -- the exact type of the object that a reference names; none of null
  abbrev pub type_of : List (Object H) → Option ObjRef → Option H
  type_of s r = type_at s (made s r)

  -- whether the bytes at a place are what is asked for: an integer's are no reference's, and a reference is a whole one
  abbrev pub is_there : List (Object H) → Address → Scalar → Bool
  is_there s p t = holds t (heap.kind_at s p (width t))

  -- what the bytes stand for: an integer of their width, as a number of 32 or of 64 bits, or an object
  abbrev pub held : List (Object H) → Scalar → ℕ → Value H
  held s (scalar.Int k) n = value.Number (convert_of (conversion k) (I8 (signed w64 n)))
  held s scalar.Ref n = value.Ref (heap.find s n)

  abbrev pub load_at : List (Object H) → Address → Scalar → Result (Value H) Trap
  load_at s p t = next (guard (is_there s p t) trap.InvalidProgram) (λ _. Ok (held s t (heap.read_at s p (width t))))

  abbrev pub store_at : List (Object H) → Address → Scalar → ℕ → Result (List (Object H)) Trap
  store_at s p t n = next (guard (is_there s p t) trap.InvalidProgram) (λ _. Ok (heap.write_at s p (width t) n))

-- Arithmetic, conversions and comparisons of the values on the stack (III.1.5). The second operand stands on top.
use Rattle.std.specs.Prelude.{◌==◌, Bool, true, false, not, if◌then◌else◌, pos, List, ◌∷◌, Option, None, Some, Result, Ok, Err}
use Rattle.cil_ops.specs.declared.number.Num.{Num}
use Rattle.cil_ops.specs.declared.number.Num.TheVariants.{I4}
use Rattle.cil_ops.specs.declared.fault.OpFault.{OpFault}
use Rattle.cil_ops.specs.declared.fault.OpFault.TheVariants as fault
use Rattle.cil_ops.specs.declared.operations.BinOp.{BinOp}
use Rattle.cil_ops.specs.declared.operations.CmpOp.{CmpOp}
use Rattle.cil_ops.specs.declared.operations.CmpOp.TheVariants as cmp
use Rattle.cil_ops.specs.declared.operations.ConvOp.{ConvOp}
use Rattle.cil_ops.specs.Binary.{binary_of}
use Rattle.cil_ops.specs.Compare.{compare_of}
use Rattle.cil_ops.specs.Convert.{convert_of}
use Rattle.obj_heap.specs.declared.address.ObjRef.{ObjRef}
use Rattle.cil_state.specs.declared.operand.Operand.{Operand}
use Rattle.cil_state.specs.declared.operand.Operand.TheVariants as seen
use Rattle.cil_state.specs.declared.trap.Trap.{Trap}
use Rattle.cil_state.specs.declared.trap.Trap.TheVariants as trap
use Rattle.cil_state.specs.declared.value.Value.{Value}
use Rattle.cil_state.specs.declared.value.Value.TheVariants as value
use Rattle.cil_state.specs.Meets.{next}
use Rattle.cil_state.specs.Operands.{top, below, both, as_number}

abbrev pub trap_of : OpFault → Trap
trap_of fault.DivideByZero = trap.DivideByZero
trap_of fault.Overflow = trap.Overflow
trap_of fault.Mixed = trap.InvalidProgram

abbrev pub or_trap : {A : Type 0} → Result A OpFault → Result A Trap
or_trap (Ok x) = Ok x
or_trap (Err e) = Err (trap_of e)

abbrev pub computed : BinOp → Num → Num → Result Num Trap
computed op a b = or_trap (binary_of op a b)

-- a comparison takes two numbers or two references
abbrev pub comparable : Operand → Result Operand Trap
comparable (seen.Number n) = Ok (seen.Number n)
comparable (seen.Ref r) = Ok (seen.Ref r)
comparable (seen.Addr a) = Err trap.NotInProfile
comparable seen.Val = Err trap.InvalidProgram
comparable seen.Missing = Err trap.InvalidProgram

abbrev pub is_same : Option ObjRef → Option ObjRef → Bool
is_same None None = true
is_same (Some a) (Some b) = a.0 == b.0
is_same _ _ = false

-- `ceq` and `beq` ask whether two references are the same, `bne.un` and `cgt.un` whether they are not (III.4, table III.4)
abbrev pub refs_compared : CmpOp → Bool → Result Bool Trap
refs_compared cmp.Eq same = Ok same
refs_compared cmp.NeUn same = Ok (not same)
refs_compared cmp.GtUn same = Ok (not same)
refs_compared _ same = Err trap.NotInProfile

abbrev pub of_one_kind : CmpOp → Operand → Operand → Result Bool Trap
of_one_kind op (seen.Number a) (seen.Number b) = or_trap (compare_of op a b)
of_one_kind op (seen.Ref a) (seen.Ref b) = refs_compared op (is_same a b)
of_one_kind op _ _ = Err trap.InvalidProgram

-- whether a comparison holds of a and b, where b was pushed last
abbrev pub compared : CmpOp → Operand → Operand → Result Bool Trap
compared op b a = next (both (comparable b) (comparable a)) (λ t. of_one_kind op t.lower t.upper)

abbrev pub as_bit : Bool → Num
as_bit holds = I4 (if holds then pos 1 else pos 0)

module _ {H : Type 0} where
  abbrev pub binary : BinOp → List (Value H) → Result (List (Value H)) Trap
  binary op stack =
      next (both (as_number (top stack)) (as_number (top (below stack)))) (λ t.
      next (computed op t.lower t.upper) (λ n. Ok (value.Number n ∷ below (below stack))))

  abbrev pub convert : ConvOp → List (Value H) → Result (List (Value H)) Trap
  convert op stack = next (as_number (top stack)) (λ n. Ok (value.Number (convert_of op n) ∷ below stack))

  abbrev pub pop_compared : CmpOp → List (Value H) → Result (Bool × List (Value H)) Trap
  pop_compared op stack = next (compared op (top stack) (top (below stack))) (λ holds. Ok (holds, below (below stack)))

  abbrev pub compare : CmpOp → List (Value H) → Result (List (Value H)) Trap
  compare op stack = next (pop_compared op stack) (λ t. Ok (value.Number (as_bit t.0) ∷ t.1))

-- Branches, in a frame whose place is already that of the next instruction (III.3.5 to III.3.18, III.3.66).
use Rattle.std.specs.Prelude.{ℕ, Bool, true, false, not, pos, List, Option, None, Some, is_some, slice_get, Result, Ok, Err}
use Rattle.std.specs.Ordering.{int_eq}
use Rattle.std.specs.Int.{w32}
use Rattle.cil_ops.specs.declared.number.Num.TheVariants.{I4, I8}
use Rattle.cil_ops.specs.declared.operations.CmpOp.{CmpOp}
use Rattle.cil_ops.specs.Number.{unsigned}
use Rattle.cil_state.specs.declared.operand.Operand.{Operand}
use Rattle.cil_state.specs.declared.operand.Operand.TheVariants as seen
use Rattle.cil_state.specs.declared.state.Frame.{Frame}
use Rattle.cil_state.specs.declared.trap.Trap.{Trap}
use Rattle.cil_state.specs.declared.trap.Trap.TheVariants as trap
use Rattle.cil_state.specs.Meets.{next}
use Rattle.cil_state.specs.Operands.{top, below}
use Rattle.cil_state.specs.State.{with_stack, at_place}
use Rattle.cil_plain.specs.Numbers.{pop_compared}

-- neither 0 nor null
abbrev pub as_truth : Operand → Result Bool Trap
as_truth (seen.Number (I4 n)) = Ok (not (int_eq n (pos 0)))
as_truth (seen.Number (I8 n)) = Ok (not (int_eq n (pos 0)))
as_truth (seen.Ref r) = Ok (is_some r)
as_truth (seen.Addr a) = Err trap.NotInProfile
as_truth seen.Val = Err trap.InvalidProgram
as_truth seen.Missing = Err trap.InvalidProgram

-- the number of a case: an I4's bits, as an unsigned number
abbrev pub as_case : Operand → Result ℕ Trap
as_case (seen.Number (I4 n)) = Ok (unsigned w32 n)
as_case (seen.Number (I8 n)) = Err trap.InvalidProgram
as_case (seen.Addr a) = Err trap.NotInProfile
as_case (seen.Ref r) = Err trap.InvalidProgram
as_case seen.Val = Err trap.InvalidProgram
as_case seen.Missing = Err trap.InvalidProgram

-- `brtrue` goes where the operand is true, `brfalse` where it isn't
abbrev pub is_taken : Bool → Bool → Bool
is_taken true is_true = is_true
is_taken false is_true = not is_true

module _ {H : Type 0} where
  -- to a target, which is none where no instruction begins
  abbrev pub jump : Option ℕ → Frame H → Result (Frame H) Trap
  jump (Some place) x = Ok (at_place x place)
  jump None x = Err trap.InvalidProgram

  abbrev pub goes : Bool → Option ℕ → Frame H → Result (Frame H) Trap
  goes true target x = jump target x
  goes false target x = Ok x

  abbrev pub jump_if : Bool → Option ℕ → Frame H → Result (Frame H) Trap
  jump_if truth target x = next (as_truth (top x.stack)) (λ b. goes (is_taken truth b) target (with_stack x (below x.stack)))

  abbrev pub jump_where : CmpOp → Option ℕ → Frame H → Result (Frame H) Trap
  jump_where op target x = next (pop_compared op x.stack) (λ t. goes t.0 target (with_stack x t.1))

  -- to the target of the case, and on where there is none
  abbrev pub to_case : Option (Option ℕ) → Frame H → Result (Frame H) Trap
  to_case (Some target) x = jump target x
  to_case None x = Ok x

  abbrev pub switch : List (Option ℕ) → Frame H → Result (Frame H) Trap
  switch targets x = next (as_case (top x.stack)) (λ n. to_case (slice_get targets n) (with_stack x (below x.stack)))

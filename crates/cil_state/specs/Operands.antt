-- What instructions see of the values on the stack, and which trap comes where an operand is another one than they want.
use Rattle.std.specs.Prelude.{Bool, true, false, if◌then◌else◌, List, [], ◌∷◌, Option, Result, Ok, Err}
use Rattle.cil_ops.specs.declared.number.Num.{Num}
use Rattle.obj_heap.specs.declared.address.ObjRef.{ObjRef}
use Rattle.cil_state.specs.declared.operand.Operand.{Operand}
use Rattle.cil_state.specs.declared.operand.Operand.TheVariants as seen
use Rattle.cil_state.specs.declared.operand.Operands.{Operands}
use Rattle.cil_state.specs.declared.trap.Trap.{Trap}
use Rattle.cil_state.specs.declared.trap.Trap.TheVariants as trap
use Rattle.cil_state.specs.declared.value.Addr.{Addr}
use Rattle.cil_state.specs.declared.value.Value.{Value}
use Rattle.cil_state.specs.declared.value.Value.TheVariants as value

module _ {H : Type 0} where
  -- a value, but for the content of one of an exact value type
  abbrev pub operand : Value H → Operand
  operand (value.Number n) = seen.Number n
  operand (value.Ref r) = seen.Ref r
  operand (value.Addr a) = seen.Addr a
  operand (value.Val h bytes) = seen.Val

  -- what stands on top of a stack
  abbrev pub top : List (Value H) → Operand
  top [] = seen.Missing
  top (v ∷ rest) = operand v

  -- the stack without its top
  abbrev pub below : List (Value H) → List (Value H)
  below [] = []
  below (v ∷ rest) = rest

-- An address isn't a number in this profile; anything else is no number at all.
abbrev pub as_number : Operand → Result Num Trap
as_number (seen.Number n) = Ok n
as_number (seen.Addr a) = Err trap.NotInProfile
as_number (seen.Ref r) = Err trap.InvalidProgram
as_number seen.Val = Err trap.InvalidProgram
as_number seen.Missing = Err trap.InvalidProgram

abbrev pub as_integer : Operand → Result Num Trap
as_integer (seen.Number n) = Ok n
as_integer (seen.Addr a) = Err trap.InvalidProgram
as_integer (seen.Ref r) = Err trap.InvalidProgram
as_integer seen.Val = Err trap.InvalidProgram
as_integer seen.Missing = Err trap.InvalidProgram

abbrev pub as_ref : Operand → Result (Option ObjRef) Trap
as_ref (seen.Ref r) = Ok r
as_ref (seen.Number n) = Err trap.InvalidProgram
as_ref (seen.Addr a) = Err trap.InvalidProgram
as_ref seen.Val = Err trap.InvalidProgram
as_ref seen.Missing = Err trap.InvalidProgram

abbrev pub as_addr : Operand → Result (Option Addr) Trap
as_addr (seen.Addr a) = Ok a
as_addr (seen.Number n) = Err trap.InvalidProgram
as_addr (seen.Ref r) = Err trap.InvalidProgram
as_addr seen.Val = Err trap.InvalidProgram
as_addr seen.Missing = Err trap.InvalidProgram

abbrev pub is_profile : Trap → Bool
is_profile trap.NotInProfile = true
is_profile _ = false

-- of two traps of operands, the one that comes first: NotInProfile before InvalidProgram
abbrev pub first : Trap → Trap → Trap
first t u = if is_profile u then u else t

-- two operands, unless one of them traps
abbrev pub both : {A B : Type 0} → Result A Trap → Result B Trap → Result (Operands A B) Trap
both (Ok a) (Ok b) = Ok (record { upper = a; lower = b })
both (Ok a) (Err u) = Err u
both (Err t) (Ok b) = Err t
both (Err t) (Err u) = Err (first t u)

-- What typed places hold: their zero, and what is loaded from them and stored to them (III.1.1.1).
use Rattle.std.specs.Prelude.{ℕ, Bool, true, false, pos, List, map, replicate, Option, None, Some, slice_get, Result, Ok, Err}
use Rattle.cil_ops.specs.declared.number.Num.{Num}
use Rattle.cil_ops.specs.declared.number.Num.TheVariants.{I4, I8}
use Rattle.cil_ops.specs.declared.operations.ConvOp.{ConvOp}
use Rattle.cil_ops.specs.declared.operations.ConvOp.TheVariants as conv
use Rattle.cil_ops.specs.Convert.{convert_of}
use Rattle.cil_state.specs.declared.form.Form.{Form}
use Rattle.cil_state.specs.declared.form.Form.TheVariants as form
use Rattle.cil_state.specs.declared.form.IntKind.{IntKind}
use Rattle.cil_state.specs.declared.form.IntKind.TheVariants as int
use Rattle.cil_state.specs.declared.form.Scalar.{Scalar}
use Rattle.cil_state.specs.declared.form.Scalar.TheVariants as scalar
use Rattle.cil_state.specs.declared.form.Variable.{Variable}
use Rattle.cil_state.specs.declared.operand.Operand.{Operand}
use Rattle.cil_state.specs.declared.trap.Trap.{Trap}
use Rattle.cil_state.specs.declared.trap.Trap.TheVariants as trap
use Rattle.cil_state.specs.declared.value.Value.{Value}
use Rattle.cil_state.specs.declared.value.Value.TheVariants as value
use Rattle.cil_state.specs.Meets.{next, guard}
use Rattle.cil_state.specs.Operands.{operand, as_integer, as_ref, as_addr}

abbrev pub int_width : IntKind → ℕ
int_width int.I1 = 1
int_width int.U1 = 1
int_width int.I2 = 2
int_width int.U2 = 2
int_width int.I4 = 4
int_width int.I8 = 8

abbrev pub is_wide : IntKind → Bool
is_wide int.I8 = true
is_wide _ = false

abbrev pub width : Scalar → ℕ
width (scalar.Int k) = int_width k
width scalar.Ref = 8

-- the conversion to the integers of a kind
abbrev pub conversion : IntKind → ConvOp
conversion int.I1 = conv.ToI1
conversion int.U1 = conv.ToU1
conversion int.I2 = conv.ToI2
conversion int.U2 = conv.ToU2
conversion int.I4 = conv.ToI4
conversion int.I8 = conv.ToI8

-- a place of 64 bits takes an I8, and any other an I4
abbrev pub takes : Bool → Num → Bool
takes true (I8 z) = true
takes true (I4 z) = false
takes false (I4 z) = true
takes false (I8 z) = false

-- what a place keeps of a number: the integer of its kind that the lowest bits stand for
abbrev pub kept : IntKind → Num → Result Num Trap
kept k n = next (guard (takes (is_wide k) n) trap.InvalidProgram) (λ _. Ok (convert_of (conversion k) n))

abbrev pub zero_number : Bool → Num
zero_number true = I8 (pos 0)
zero_number false = I4 (pos 0)

module _ {H : Type 0} where
  abbrev pub zero : Form H → Value H
  zero (form.Scalar (scalar.Int k)) = value.Number (zero_number (is_wide k))
  zero (form.Scalar scalar.Ref) = value.Ref None
  zero form.Addr = value.Addr None
  zero (form.Val h size) = value.Val h (replicate size 0)
  zero form.Outside = value.Ref None

  -- a variable of a form, with its zero
  abbrev pub begun : Form H → Variable H
  begun f = record { form = f; value = zero f }

  abbrev pub zeroed : List (Form H) → List (Variable H)
  zeroed fs = map begun fs

  abbrev pub found : Option (Variable H) → Result (Variable H) Trap
  found (Some v) = Ok v
  found None = Err trap.InvalidProgram

  -- the variable with that number
  abbrev pub variable : List (Variable H) → ℕ → Result (Variable H) Trap
  variable vs n = found (slice_get vs n)

  abbrev pub is_outside : Form H → Bool
  is_outside form.Outside = true
  is_outside (form.Scalar s) = false
  is_outside form.Addr = false
  is_outside (form.Val h size) = false

  abbrev pub unless : Bool → Value H → Result (Value H) Trap
  unless true v = Err trap.NotInProfile
  unless false v = Ok v

  abbrev pub loaded : Variable H → Result (Value H) Trap
  loaded v = unless (is_outside v.form) v.value

  abbrev pub scalar_assigned : Scalar → Operand → Result (Value H) Trap
  scalar_assigned (scalar.Int k) o = next (as_integer o) (λ n. next (kept k n) (λ m. Ok (value.Number m)))
  scalar_assigned scalar.Ref o = next (as_ref o) (λ r. Ok (value.Ref r))

  -- a value of an exact value type
  abbrev pub as_val : Value H → Result (H × List ℕ) Trap
  as_val (value.Val h bytes) = Ok (h, bytes)
  as_val (value.Number n) = Err trap.InvalidProgram
  as_val (value.Ref r) = Err trap.InvalidProgram
  as_val (value.Addr a) = Err trap.InvalidProgram

-- Equality of exact types decides whether a value is one of a variable's.
module _ {H : Type 0} (equal : H → H → Bool) where
  abbrev pub struct_assigned : H → Value H → Result (Value H) Trap
  struct_assigned h v = next (as_val v) (λ t. next (guard (equal t.0 h) trap.InvalidProgram) (λ _. Ok (value.Val t.0 t.1)))

  -- what a variable of a form has after a store of the value
  abbrev pub assigned : Form H → Value H → Result (Value H) Trap
  assigned (form.Scalar s) v = scalar_assigned s (operand v)
  assigned form.Addr v = next (as_addr (operand v)) (λ a. Ok (value.Addr a))
  assigned (form.Val h size) v = struct_assigned h v
  assigned form.Outside v = Err trap.NotInProfile

-- What an instruction gives for two numbers (ECMA-335 III.1.5, tables III.2, III.5, III.6 and III.7).
use Rattle.std.specs.Prelude.{◌^◌, ◌/◌, ◌%◌, Bool, true, false, not, if◌then◌else◌, ℤ, pos, ◌+ℤ◌, ◌-ℤ◌, ◌*ℤ◌, Result, Ok, Err, int_div, int_rem}
use Rattle.std.specs.Ordering.{int_eq}
use Rattle.std.specs.Int.{Width, int_wrap, int_div_euclid, int_bit_and, int_bit_or, int_bit_xor}
use Rattle.cil_ops.specs.declared.number.Num.{Num}
use Rattle.cil_ops.specs.declared.number.Num.TheVariants.{I4, I8}
use Rattle.cil_ops.specs.declared.fault.OpFault.{OpFault}
use Rattle.cil_ops.specs.declared.fault.OpFault.TheVariants.{DivideByZero, Overflow, Mixed}
use Rattle.cil_ops.specs.declared.operations.BinOp.{BinOp}
use Rattle.cil_ops.specs.declared.operations.BinOp.TheVariants.{Add, Sub, Mul, Div, DivUn, Rem, RemUn, And, Or, Xor, Shl, Shr, ShrUn, AddOvf, AddOvfUn, MulOvf, MulOvfUn, SubOvf, SubOvfUn}
use Rattle.cil_ops.specs.Number.{width_of, integer_of, as_wide_as, unsigned, signed, fits, checked, checked_unsigned, shift_of}

-- the second operand counts places to shift by
abbrev pub is_shift : BinOp → Bool
is_shift Shl = true
is_shift Shr = true
is_shift ShrUn = true
is_shift _ = false

abbrev pub is_i4 : Num → Bool
is_i4 (I4 a) = true
is_i4 (I8 a) = false

abbrev pub have_one_width : Num → Num → Bool
have_one_width (I4 a) (I4 b) = true
have_one_width (I8 a) (I8 b) = true
have_one_width _ _ = false

-- the operands that the tables don't have: a count must be an `I4`, and any other two operands must have one width
abbrev pub is_mixed : BinOp → Num → Num → Bool
is_mixed op a b = if is_shift op then not (is_i4 b) else not (have_one_width a b)

-- r, unless the divisor is 0
abbrev pub unless_zero : ℤ → Result ℤ OpFault → Result ℤ OpFault
unless_zero divisor r = if int_eq divisor (pos 0) then Err DivideByZero else r

-- an instruction at a width, on the integers that its operands stand for
abbrev pub binary_at : Width → BinOp → ℤ → ℤ → Result ℤ OpFault
-- III.3.1, III.3.64, III.3.48: the exact result, wrapped
binary_at w Add a b = Ok (int_wrap w (a +ℤ b))
binary_at w Sub a b = Ok (int_wrap w (a -ℤ b))
binary_at w Mul a b = Ok (int_wrap w (a *ℤ b))
-- III.3.31, III.3.55: truncated toward zero, the remainder with the dividend's sign. The one quotient that doesn't fit is
-- that of the least value and -1, where the remainder overflows too
binary_at w Div a b = unless_zero b (checked w (int_div a b))
binary_at w Rem a b = unless_zero b (if fits w (int_div a b) then Ok (int_rem a b) else Err Overflow)
-- III.3.32, III.3.56
binary_at w DivUn a b = unless_zero b (Ok (signed w (unsigned w a / unsigned w b)))
binary_at w RemUn a b = unless_zero b (Ok (signed w (unsigned w a % unsigned w b)))
-- III.3.3, III.3.53, III.3.67: on the bits in two's complement
binary_at w And a b = Ok (int_bit_and w a b)
binary_at w Or a b = Ok (int_bit_or w a b)
binary_at w Xor a b = Ok (int_bit_xor w a b)
-- III.3.58: the product with a power of two, wrapped
binary_at w Shl a count = Ok (int_wrap w (a *ℤ pos (2 ^ shift_of w count)))
-- III.3.59, III.3.60: the quotient by a power of two, rounded down, of the signed or the unsigned number
binary_at w Shr a count = Ok (int_div_euclid a (pos (2 ^ shift_of w count)))
binary_at w ShrUn a count = Ok (signed w (unsigned w a / 2 ^ shift_of w count))
-- III.3.2, III.3.65, III.3.49: the exact result, or Overflow
binary_at w AddOvf a b = checked w (a +ℤ b)
binary_at w SubOvf a b = checked w (a -ℤ b)
binary_at w MulOvf a b = checked w (a *ℤ b)
binary_at w AddOvfUn a b = checked_unsigned w (pos (unsigned w a) +ℤ pos (unsigned w b))
binary_at w SubOvfUn a b = checked_unsigned w (pos (unsigned w a) -ℤ pos (unsigned w b))
binary_at w MulOvfUn a b = checked_unsigned w (pos (unsigned w a) *ℤ pos (unsigned w b))

-- the integer as a number of a's width
abbrev pub result_like : Num → Result ℤ OpFault → Result Num OpFault
result_like a (Ok z) = Ok (as_wide_as a z)
result_like a (Err fault) = Err fault

-- what an instruction gives: Mixed first, then a result of the first operand's width
abbrev pub binary_of : BinOp → Num → Num → Result Num OpFault
binary_of op a b =
    if is_mixed op a b then Err Mixed
    else result_like a (binary_at (width_of a) op (integer_of a) (integer_of b))

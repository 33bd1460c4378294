-- What a conversion, `neg` or `not` gives for a number (ECMA-335 III.1.5, tables III.3, III.5 and III.8).
use Rattle.std.specs.Prelude.{◌^◌, pos, neg_ℤ, ◌-ℤ◌}
use Rattle.std.specs.Int.{w8, w16, w32, w64, int_wrap, int_rem_euclid}
use Rattle.cil_ops.specs.declared.number.Num.{Num}
use Rattle.cil_ops.specs.declared.number.Num.TheVariants.{I4, I8}
use Rattle.cil_ops.specs.declared.operations.ConvOp.{ConvOp}
use Rattle.cil_ops.specs.declared.operations.ConvOp.TheVariants.{ToI1, ToI2, ToI4, ToI8, ToU1, ToU2, ToU4, ToU8, ToI, ToU, Neg, Not}
use Rattle.cil_ops.specs.Number.{width_of, integer_of, as_wide_as, unsigned}

abbrev pub convert_of : ConvOp → Num → Num
-- III.3.27: to a narrower width what the integer leaves there, as a signed or an unsigned number. Of 8 or 16 bits the
-- result is widened to an `I4`; `conv.u4` leaves the bits that `conv.i4` leaves
convert_of ToI1 a = I4 (int_wrap w8 (integer_of a))
convert_of ToI2 a = I4 (int_wrap w16 (integer_of a))
convert_of ToI4 a = I4 (int_wrap w32 (integer_of a))
convert_of ToU1 a = I4 (int_rem_euclid (integer_of a) (pos (2 ^ 8)))
convert_of ToU2 a = I4 (int_rem_euclid (integer_of a) (pos (2 ^ 16)))
convert_of ToU4 a = I4 (int_wrap w32 (integer_of a))
-- to 64 bits the same integer, or the unsigned number with the operand's bits: the sign or zeros fill the upper half
convert_of ToI8 a = I8 (integer_of a)
convert_of ToI a = I8 (integer_of a)
convert_of ToU8 a = I8 (int_wrap w64 (pos (unsigned (width_of a) (integer_of a))))
convert_of ToU a = I8 (int_wrap w64 (pos (unsigned (width_of a) (integer_of a))))
-- III.3.50: the exact result, wrapped
convert_of Neg a = as_wide_as a (int_wrap (width_of a) (neg_ℤ (integer_of a)))
-- III.3.52: each bit the other way, which in two's complement is -a - 1
convert_of Not a = as_wide_as a (neg_ℤ (integer_of a) -ℤ pos 1)

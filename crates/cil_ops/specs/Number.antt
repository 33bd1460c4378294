-- The numbers of the evaluation stack as integers (ECMA-335 III.1.1.1), and the integers that fit a width.
-- `int_wrap w z` of std is what z leaves in w bits: the one number of that width, in two's complement, that differs from z
-- by a multiple of 2 ^ 32 or 2 ^ 64.
use Rattle.std.specs.Prelude.{ℕ, ◌^◌, Bool, if◌then◌else◌, ℤ, pos, negsuc, nat_lt, Result, Ok, Err, unsigned_abs}
use Rattle.std.specs.Int.{Width, w32, w64, cast_unsigned, cast_signed, int_rem_euclid}
use Rattle.cil_ops.specs.declared.number.Num.{Num}
use Rattle.cil_ops.specs.declared.number.Num.TheVariants.{I4, I8}
use Rattle.cil_ops.specs.declared.fault.OpFault.{OpFault}
use Rattle.cil_ops.specs.declared.fault.OpFault.TheVariants.{Overflow}
use mir.Val.{bits, hbits}

-- how many bits a number has: 32 or 64
abbrev pub width_of : Num → Width
width_of (I4 a) = w32
width_of (I8 a) = w64

-- the integer that it stands for
abbrev pub integer_of : Num → ℤ
integer_of (I4 a) = a
integer_of (I8 a) = a

-- the number of a's width that stands for z
abbrev pub as_wide_as : Num → ℤ → Num
as_wide_as (I4 a) z = I4 z
as_wide_as (I8 a) z = I8 z

-- the unsigned number with the bits of a: a itself, or 2 ^ 32 or 2 ^ 64 more where a is negative
abbrev pub unsigned : Width → ℤ → ℕ
unsigned w a = cast_unsigned w a

-- the number with the bits of the unsigned number n, which is below 2 ^ 32 or 2 ^ 64: the inverse of `unsigned`
abbrev pub signed : Width → ℕ → ℤ
signed w n = cast_signed w n

-- z lies from -(2 ^ 31) to 2 ^ 31 - 1, or from -(2 ^ 63) to 2 ^ 63 - 1: `negsuc n` is -(n + 1)
abbrev pub fits : Width → ℤ → Bool
fits w (pos n) = nat_lt n (2 ^ hbits w)
fits w (negsuc n) = nat_lt n (2 ^ hbits w)

-- the exact result z where it fits
abbrev pub checked : Width → ℤ → Result ℤ OpFault
checked w z = if fits w z then Ok z else Err Overflow

-- the exact result z of unsigned operands where it lies from 0 to 2 ^ 32 - 1, or to 2 ^ 64 - 1
abbrev pub checked_unsigned : Width → ℤ → Result ℤ OpFault
checked_unsigned w (pos n) = if nat_lt n (2 ^ bits w) then Ok (signed w n) else Err Overflow
checked_unsigned w (negsuc n) = Err Overflow

-- how far a count shifts: the count modulo 32 or 64, its lowest 5 or 6 bits
abbrev pub shift_of : Width → ℤ → ℕ
shift_of w count = unsigned_abs (int_rem_euclid count (pos (bits w)))

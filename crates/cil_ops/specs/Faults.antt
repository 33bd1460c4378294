-- Where each fault of an instruction on two numbers comes (ECMA-335 III.3, "Exceptions").
use Rattle.std.specs.Prelude.{◌+◌, ◌-◌, ◌*◌, ◌^◌, ◌<◌, ◌≤◌, ◌≡◌, Bool, true, false, ℤ, pos, negsuc, ◌+ℤ◌, ◌-ℤ◌, ◌*ℤ◌, FitsSigned, IsTrue, IsFalse}
use Rattle.std.specs.Int.{Width}
use Rattle.cil_ops.specs.declared.number.Num.{Num}
use Rattle.cil_ops.specs.declared.operations.BinOp.{BinOp}
use Rattle.cil_ops.specs.declared.operations.BinOp.TheVariants.{Div, DivUn, Rem, RemUn, AddOvf, AddOvfUn, MulOvf, MulOvfUn, SubOvf, SubOvfUn}
use Rattle.cil_ops.specs.Number.{width_of, integer_of, unsigned}
use Rattle.cil_ops.specs.Binary.{is_mixed}
use mir.Val.{bits, hbits}

abbrev pub is_division : BinOp → Bool
is_division Div = true
is_division DivUn = true
is_division Rem = true
is_division RemUn = true
is_division _ = false

-- the divisor is 0
abbrev pub DividesByZero : BinOp → Num → Num → Type 0
DividesByZero op a b = IsFalse (is_mixed op a b) × IsTrue (is_division op) × (integer_of b ≡ pos 0)

-- -(2 ^ 31) or -(2 ^ 63)
abbrev pub least : Width → ℤ
least w = negsuc (2 ^ hbits w - 1)

-- the exact result isn't one of the width's numbers, signed or unsigned as the instruction has it
abbrev pub ExceedsWidth : Width → BinOp → ℤ → ℤ → Type 0
ExceedsWidth w Div a b = (a ≡ least w) × (b ≡ negsuc 0)
ExceedsWidth w Rem a b = (a ≡ least w) × (b ≡ negsuc 0)
ExceedsWidth w AddOvf a b = ¬ FitsSigned w (a +ℤ b)
ExceedsWidth w SubOvf a b = ¬ FitsSigned w (a -ℤ b)
ExceedsWidth w MulOvf a b = ¬ FitsSigned w (a *ℤ b)
ExceedsWidth w AddOvfUn a b = 2 ^ bits w ≤ unsigned w a + unsigned w b
ExceedsWidth w SubOvfUn a b = unsigned w a < unsigned w b
ExceedsWidth w MulOvfUn a b = 2 ^ bits w ≤ unsigned w a * unsigned w b
ExceedsWidth w _ a b = ⊥

abbrev pub Overflows : BinOp → Num → Num → Type 0
Overflows op a b = IsFalse (is_mixed op a b) × ExceedsWidth (width_of a) op (integer_of a) (integer_of b)

-- What a comparison answers (ECMA-335 III.1.5, table III.4).
use Rattle.std.specs.Prelude.{Bool, not, if◌then◌else◌, ℤ, nat_lt, nat_le, int_lt, int_le, Result, Ok, Err}
use Rattle.std.specs.Ordering.{int_eq}
use Rattle.std.specs.Int.{Width}
use Rattle.cil_ops.specs.declared.number.Num.{Num}
use Rattle.cil_ops.specs.declared.fault.OpFault.{OpFault}
use Rattle.cil_ops.specs.declared.fault.OpFault.TheVariants.{Mixed}
use Rattle.cil_ops.specs.declared.operations.CmpOp.{CmpOp}
use Rattle.cil_ops.specs.declared.operations.CmpOp.TheVariants.{Eq, NeUn, Ge, GeUn, Gt, GtUn, Le, LeUn, Lt, LtUn}
use Rattle.cil_ops.specs.Number.{width_of, integer_of, unsigned}
use Rattle.cil_ops.specs.Binary.{have_one_width}

-- a comparison at a width, of the integers that its operands stand for
abbrev pub compare_at : Width → CmpOp → ℤ → ℤ → Bool
-- III.3.21, III.3.14
compare_at w Eq a b = int_eq a b
compare_at w NeUn a b = not (int_eq a b)
-- III.3.6, III.3.8 and III.3.22, III.3.10, III.3.12 and III.3.25: as signed numbers
compare_at w Ge a b = int_le b a
compare_at w Gt a b = int_lt b a
compare_at w Le a b = int_le a b
compare_at w Lt a b = int_lt a b
-- III.3.7, III.3.9 and III.3.23, III.3.11, III.3.13 and III.3.26: as unsigned numbers
compare_at w GeUn a b = nat_le (unsigned w b) (unsigned w a)
compare_at w GtUn a b = nat_lt (unsigned w b) (unsigned w a)
compare_at w LeUn a b = nat_le (unsigned w a) (unsigned w b)
compare_at w LtUn a b = nat_lt (unsigned w a) (unsigned w b)

-- what a comparison answers: Mixed where the widths differ
abbrev pub compare_of : CmpOp → Num → Num → Result Bool OpFault
compare_of op a b =
    if have_one_width a b then Ok (compare_at (width_of a) op (integer_of a) (integer_of b))
    else Err Mixed

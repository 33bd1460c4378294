-- The instruction set, as its two tables have it.
use Rattle.std.specs.Prelude.{ℕ, ◌-◌, Bool, true, false, nat_lt, if◌then◌else◌, Option, None, slice_get}
use Rattle.std.specs.Option.{option_flatten}
use Rattle.cil_code.specs.declared.instruction_set.OperandKind.{OperandKind}
use Rattle.cil_code.specs.declared.instruction_set.OperandKind.TheVariants.{NoOperand, Int8, Int16, Int32, Int64, Token, ShortBranch, Branch, Switch}
use Rattle.cil_code.specs.declared.instruction_set.Op.{Op}
use Rattle.cil_code.specs.declared.instruction_set.TheConstants.{ONE_BYTE, TWO_BYTES}

-- the row of a code of one byte, or of 0xFE00 plus the second byte
unfoldable pub op_of : ℕ → Option Op
op_of code =
    if nat_lt code 0x100 then option_flatten (slice_get ONE_BYTE code)
    else (if nat_lt code 0xFE00 then None else option_flatten (slice_get TWO_BYTES (code - 0xFE00)))

-- the number of bytes behind the code; of a switch, those of its count
abbrev pub width : OperandKind → ℕ
width NoOperand = 0
width Int8 = 1
width Int16 = 2
width Int32 = 4
width Int64 = 8
width Token = 4
width ShortBranch = 1
width Branch = 4
width Switch = 4

-- whether distances follow the operand, which counts them
abbrev pub is_switch : OperandKind → Bool
is_switch NoOperand = false
is_switch Int8 = false
is_switch Int16 = false
is_switch Int32 = false
is_switch Int64 = false
is_switch Token = false
is_switch ShortBranch = false
is_switch Branch = false
is_switch Switch = true

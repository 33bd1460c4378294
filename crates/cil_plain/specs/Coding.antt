-- Which instruction of the instruction set does what.
use Rattle.std.specs.Prelude.{ℕ, ◌%◌, ◌^◌, true, false, pos, negsuc, Option, None, Some}
use Rattle.std.specs.Int.{w64}
use Rattle.cil_code.specs.declared.opcode.Opcode.{Opcode}
use Rattle.cil_code.specs.declared.opcode.Opcode.TheVariants as code
use Rattle.cil_ops.specs.declared.number.Num.TheVariants.{I4, I8}
use Rattle.cil_ops.specs.declared.operations.BinOp.TheVariants as bin
use Rattle.cil_ops.specs.declared.operations.CmpOp.TheVariants as cmp
use Rattle.cil_ops.specs.declared.operations.ConvOp.TheVariants as conv
use Rattle.cil_ops.specs.Convert.{convert_of}
use Rattle.cil_ops.specs.Number.{signed}
use Rattle.cil_state.specs.declared.form.IntKind.TheVariants as int
use Rattle.cil_state.specs.declared.form.Scalar.{Scalar}
use Rattle.cil_state.specs.declared.form.Scalar.TheVariants as scalar
use Rattle.cil_plain.specs.declared.op.Branch.{Branch}
use Rattle.cil_plain.specs.declared.op.Branch.TheVariants as branch
use Rattle.cil_plain.specs.declared.op.Plain.{Plain}
use Rattle.cil_plain.specs.declared.op.Plain.TheVariants as op

-- the number of an argument or a local, which has two bytes at most
abbrev pub number : ℕ → ℕ
number operand = operand % 2 ^ 32

-- what a branch asks before it goes (III.3.5 to III.3.18)
abbrev pub branch_of : Opcode → Option Branch
branch_of code.BrS = Some branch.Always
branch_of code.Br = Some branch.Always
branch_of code.BrfalseS = Some (branch.If false)
branch_of code.Brfalse = Some (branch.If false)
branch_of code.BrtrueS = Some (branch.If true)
branch_of code.Brtrue = Some (branch.If true)
branch_of code.BeqS = Some (branch.Where cmp.Eq)
branch_of code.Beq = Some (branch.Where cmp.Eq)
branch_of code.BgeS = Some (branch.Where cmp.Ge)
branch_of code.Bge = Some (branch.Where cmp.Ge)
branch_of code.BgtS = Some (branch.Where cmp.Gt)
branch_of code.Bgt = Some (branch.Where cmp.Gt)
branch_of code.BleS = Some (branch.Where cmp.Le)
branch_of code.Ble = Some (branch.Where cmp.Le)
branch_of code.BltS = Some (branch.Where cmp.Lt)
branch_of code.Blt = Some (branch.Where cmp.Lt)
branch_of code.BneUnS = Some (branch.Where cmp.NeUn)
branch_of code.BneUn = Some (branch.Where cmp.NeUn)
branch_of code.BgeUnS = Some (branch.Where cmp.GeUn)
branch_of code.BgeUn = Some (branch.Where cmp.GeUn)
branch_of code.BgtUnS = Some (branch.Where cmp.GtUn)
branch_of code.BgtUn = Some (branch.Where cmp.GtUn)
branch_of code.BleUnS = Some (branch.Where cmp.LeUn)
branch_of code.BleUn = Some (branch.Where cmp.LeUn)
branch_of code.BltUnS = Some (branch.Where cmp.LtUn)
branch_of code.BltUn = Some (branch.Where cmp.LtUn)
branch_of _ = None

-- instructions on numbers (III.3), and comparisons
abbrev pub operation_of : Opcode → Option Plain
operation_of code.Add = Some (op.Binary bin.Add)
operation_of code.Sub = Some (op.Binary bin.Sub)
operation_of code.Mul = Some (op.Binary bin.Mul)
operation_of code.Div = Some (op.Binary bin.Div)
operation_of code.DivUn = Some (op.Binary bin.DivUn)
operation_of code.Rem = Some (op.Binary bin.Rem)
operation_of code.RemUn = Some (op.Binary bin.RemUn)
operation_of code.And = Some (op.Binary bin.And)
operation_of code.Or = Some (op.Binary bin.Or)
operation_of code.Xor = Some (op.Binary bin.Xor)
operation_of code.Shl = Some (op.Binary bin.Shl)
operation_of code.Shr = Some (op.Binary bin.Shr)
operation_of code.ShrUn = Some (op.Binary bin.ShrUn)
operation_of code.AddOvf = Some (op.Binary bin.AddOvf)
operation_of code.AddOvfUn = Some (op.Binary bin.AddOvfUn)
operation_of code.MulOvf = Some (op.Binary bin.MulOvf)
operation_of code.MulOvfUn = Some (op.Binary bin.MulOvfUn)
operation_of code.SubOvf = Some (op.Binary bin.SubOvf)
operation_of code.SubOvfUn = Some (op.Binary bin.SubOvfUn)
operation_of code.Neg = Some (op.Convert conv.Neg)
operation_of code.Not = Some (op.Convert conv.Not)
operation_of code.ConvI1 = Some (op.Convert conv.ToI1)
operation_of code.ConvI2 = Some (op.Convert conv.ToI2)
operation_of code.ConvI4 = Some (op.Convert conv.ToI4)
operation_of code.ConvI8 = Some (op.Convert conv.ToI8)
operation_of code.ConvU1 = Some (op.Convert conv.ToU1)
operation_of code.ConvU2 = Some (op.Convert conv.ToU2)
operation_of code.ConvU4 = Some (op.Convert conv.ToU4)
operation_of code.ConvU8 = Some (op.Convert conv.ToU8)
operation_of code.ConvI = Some (op.Convert conv.ToI)
operation_of code.ConvU = Some (op.Convert conv.ToU)
operation_of code.Ceq = Some (op.Compare cmp.Eq)
operation_of code.Cgt = Some (op.Compare cmp.Gt)
operation_of code.CgtUn = Some (op.Compare cmp.GtUn)
operation_of code.Clt = Some (op.Compare cmp.Lt)
operation_of code.CltUn = Some (op.Compare cmp.LtUn)
operation_of _ = None

-- instructions on arguments and locals
abbrev pub variable_of : Opcode → ℕ → Option Plain
variable_of code.Ldarg0 operand = Some (op.LoadArg 0)
variable_of code.Ldarg1 operand = Some (op.LoadArg 1)
variable_of code.Ldarg2 operand = Some (op.LoadArg 2)
variable_of code.Ldarg3 operand = Some (op.LoadArg 3)
variable_of code.Ldloc0 operand = Some (op.LoadLocal 0)
variable_of code.Ldloc1 operand = Some (op.LoadLocal 1)
variable_of code.Ldloc2 operand = Some (op.LoadLocal 2)
variable_of code.Ldloc3 operand = Some (op.LoadLocal 3)
variable_of code.Stloc0 operand = Some (op.StoreLocal 0)
variable_of code.Stloc1 operand = Some (op.StoreLocal 1)
variable_of code.Stloc2 operand = Some (op.StoreLocal 2)
variable_of code.Stloc3 operand = Some (op.StoreLocal 3)
variable_of code.LdargS operand = Some (op.LoadArg (number operand))
variable_of code.Ldarg operand = Some (op.LoadArg (number operand))
variable_of code.StargS operand = Some (op.StoreArg (number operand))
variable_of code.Starg operand = Some (op.StoreArg (number operand))
variable_of code.LdlocS operand = Some (op.LoadLocal (number operand))
variable_of code.Ldloc operand = Some (op.LoadLocal (number operand))
variable_of code.StlocS operand = Some (op.StoreLocal (number operand))
variable_of code.Stloc operand = Some (op.StoreLocal (number operand))
variable_of _ operand = None

-- constants (III.3.40, III.3.45), and instructions on the top of the stack
abbrev pub constant_of : Opcode → ℕ → Option Plain
constant_of code.Nop operand = Some op.Nop
constant_of code.Break operand = Some op.Nop
constant_of code.Ldnull operand = Some op.Null
constant_of code.LdcI4M1 operand = Some (op.Const (I4 (negsuc 0)))
constant_of code.LdcI40 operand = Some (op.Const (I4 (pos 0)))
constant_of code.LdcI41 operand = Some (op.Const (I4 (pos 1)))
constant_of code.LdcI42 operand = Some (op.Const (I4 (pos 2)))
constant_of code.LdcI43 operand = Some (op.Const (I4 (pos 3)))
constant_of code.LdcI44 operand = Some (op.Const (I4 (pos 4)))
constant_of code.LdcI45 operand = Some (op.Const (I4 (pos 5)))
constant_of code.LdcI46 operand = Some (op.Const (I4 (pos 6)))
constant_of code.LdcI47 operand = Some (op.Const (I4 (pos 7)))
constant_of code.LdcI48 operand = Some (op.Const (I4 (pos 8)))
constant_of code.LdcI4S operand = Some (op.Const (convert_of conv.ToI1 (I8 (signed w64 operand))))
constant_of code.LdcI4 operand = Some (op.Const (convert_of conv.ToI4 (I8 (signed w64 operand))))
constant_of code.LdcI8 operand = Some (op.Const (I8 (signed w64 operand)))
constant_of code.Dup operand = Some op.Dup
constant_of code.Pop operand = Some op.Pop
constant_of code.Throw operand = Some op.Throw
constant_of _ operand = None

-- what the forms of `ldelem` ask for (III.4.8)
abbrev pub loaded_element : Opcode → Option Scalar
loaded_element code.LdelemI1 = Some (scalar.Int int.I1)
loaded_element code.LdelemU1 = Some (scalar.Int int.U1)
loaded_element code.LdelemI2 = Some (scalar.Int int.I2)
loaded_element code.LdelemU2 = Some (scalar.Int int.U2)
loaded_element code.LdelemI4 = Some (scalar.Int int.I4)
loaded_element code.LdelemU4 = Some (scalar.Int int.I4)
loaded_element code.LdelemI8 = Some (scalar.Int int.I8)
loaded_element code.LdelemI = Some (scalar.Int int.I8)
loaded_element code.LdelemRef = Some scalar.Ref
loaded_element _ = None

-- what the forms of `stelem` store (III.4.27)
abbrev pub stored_element : Opcode → Option Scalar
stored_element code.StelemI1 = Some (scalar.Int int.I1)
stored_element code.StelemI2 = Some (scalar.Int int.I2)
stored_element code.StelemI4 = Some (scalar.Int int.I4)
stored_element code.StelemI8 = Some (scalar.Int int.I8)
stored_element code.StelemI = Some (scalar.Int int.I8)
stored_element code.StelemRef = Some scalar.Ref
stored_element _ = None

abbrev pub or_else : Option Plain → Option Plain → Option Plain
or_else (Some o) other = Some o
or_else None other = other

-- what an instruction without a target does in a frame
abbrev pub plain_of : Opcode → ℕ → Option Plain
plain_of code operand = or_else (constant_of code operand) (or_else (variable_of code operand) (operation_of code))

-- what a branch does
abbrev pub going_to : Branch → Option ℕ → Plain
going_to branch.Always target = op.Jump target
going_to (branch.If truth) target = op.JumpIf truth target
going_to (branch.Where o) target = op.JumpWhere o target

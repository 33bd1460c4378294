-- Reading code from its first byte to its last, with the first fault that is met.
use Rattle.std.specs.Prelude.{◌≡◌, ℕ, zero, suc, ◌+◌, ◌-◌, ◌*◌, nat_lt, ◌==◌, if◌then◌else◌, List, [], ◌∷◌, ◌++◌, length, take, drop, Option, Some, None, Result, Ok, Err}
use Rattle.byteorder.specs.Endian.{little_number}
use Rattle.cil_code.specs.declared.code_fault.CodeFault.{CodeFault}
use Rattle.cil_code.specs.declared.code_fault.CodeFault.TheVariants as fault
use Rattle.cil_code.specs.declared.instruction_set.Op.{Op}
use Rattle.cil_code.specs.declared.body.Prefix.{Prefix}
use Rattle.cil_code.specs.declared.body.Instr.{Instr}
use Rattle.cil_code.specs.declared.body.Placed.{Placed}
use Rattle.cil_code.specs.InstructionSet.{op_of, width, is_switch}

infixl 10 ◌>>=◌
abbrev pub ◌>>=◌ : {A B : Type 0} → Result A CodeFault → (A → Result B CodeFault) → Result B CodeFault
(Ok x) >>= f = f x
(Err e) >>= f = Err e

-- what a function returned, seen by view, is what reading gives, unless memory ran out
abbrev pub Fails : {Y : Type 0} → CodeFault → Result Y CodeFault → Type 0
Fails fault.Memory read = Unit {0}
Fails (fault.NotInProfile n) read = read ≡ Err (fault.NotInProfile n)
Fails (fault.BadBody n) read = read ≡ Err (fault.BadBody n)

abbrev pub Gives : {X Y : Type 0} → (X → Y) → Result X CodeFault → Result Y CodeFault → Type 0
Gives view (Ok x) read = read ≡ Ok (view x)
Gives view (Err e) read = Fails e read

-- the code of a body from a place on
pub record Window : Type 0 where
  -- the length of the body's header
  pub header : ℕ
  -- how many bytes of code stand before
  pub place : ℕ
  -- how many bytes of code follow, as the header says
  pub left : ℕ
  -- the body's bytes that follow, which may end sooner, or go on
  pub bytes : List ℕ

-- a fault at a place of the code
abbrev pub fault_at : ℕ → Window → CodeFault
fault_at place w = fault.BadBody (w.header + place)

-- what is left behind n bytes
abbrev pub behind : ℕ → Window → Window
behind n w = record { header = w.header; place = w.place + n; left = w.left - n; bytes = drop n w.bytes }

-- The next n bytes of what began at start. Where the code is too short for them, what began there is bad; else where the list is, its end is.
abbrev pub front : ℕ → ℕ → Window → Result (List ℕ × Window) CodeFault
front start n w =
    if nat_lt w.left n then Err (fault_at start w)
    else (if nat_lt (length w.bytes) n then Err (fault_at (w.place + length w.bytes) w) else Ok (take n w.bytes, behind n w))

-- a number of n bytes, the lowest first
abbrev pub number_at : ℕ → ℕ → Window → Result (ℕ × Window) CodeFault
number_at start n w = front start n w >>= λ x. Ok (little_number n x.0, x.1)

-- the code of an instruction: a byte, or 0xFE and a second one
unfoldable pub code_at : Window → Result (ℕ × Window) CodeFault
code_at w = number_at w.place 1 w >>= λ first. if first.0 == 0xFE then (number_at w.place 1 first.1 >>= λ second. Ok (0xFE00 + second.0, second.1)) else Ok first

-- the row of the instruction set that the code names
abbrev pub row_or : CodeFault → Option Op → Result Op CodeFault
row_or f None = Err f
row_or f (Some op) = Ok op

unfoldable pub row_at : Window → Result (Op × Window) CodeFault
row_at w = code_at w >>= λ code. row_or (fault_at w.place w) (op_of code.0) >>= λ op. Ok (op, code.1)

-- an instruction or a prefix, with its operand
unfoldable pub coded_at : Window → Result (Prefix × Window) CodeFault
coded_at w = row_at w >>= λ op. number_at w.place (width op.0.operand) op.1 >>= λ operand. Ok (record { op = op.0; operand = operand.0 }, operand.1)

-- numbers of four bytes, one after the other
abbrev pub numbers : ℕ → List ℕ → List ℕ
numbers zero bytes = []
numbers (suc n) bytes = little_number 4 bytes ∷ numbers n (drop 4 bytes)

-- the targets of a switch that began at start
unfoldable pub targets_at : ℕ → Prefix → Window → Result (List ℕ × Window) CodeFault
targets_at start coded w =
    if is_switch coded.op.operand then (front start (4 * coded.operand) w >>= λ x. Ok (numbers coded.operand x.0, x.1)) else Ok ([], w)

-- An instruction with these prefixes before it, and those that stand here. Each takes a byte at least, so n is no bound where it isn't less than what is left.
unfoldable pub instr_at : ℕ → List Prefix → Window → Result (Instr × Window) CodeFault
instr_at zero prefixes w = Err (fault_at w.place w)
instr_at (suc n) prefixes w = coded_at w >>= λ coded.
    if coded.0.op.is_prefix
    then (if coded.1.left == 0 then Err (fault_at w.place w) else instr_at n (prefixes ++ coded.0 ∷ []) coded.1)
    else (targets_at w.place coded.0 coded.1 >>= λ targets. Ok (record { prefixes = prefixes; op = coded.0.op; operand = coded.0.operand; targets = targets.0 }, targets.1))

-- the instructions of the code, each with its place
unfoldable pub list_at : ℕ → Window → Result (List Placed) CodeFault
list_at zero w = Ok []
list_at (suc n) w =
    if w.left == 0 then Ok []
    else (instr_at w.left [] w >>= λ first. list_at n first.1 >>= λ rest. Ok (record { place = w.place; instr = first.0 } ∷ rest))

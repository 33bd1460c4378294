-- Types (II.23.2.12), and the methods that a function pointer leads to (II.23.2.1 to II.23.2.3).
use Rattle.std.specs.Prelude.{ℕ, zero, suc, Bool, true, false, ◌&&◌, ◌||◌, not, nat_le, ◌==◌, bit_and, List, [], ◌∷◌, Option, Some, None, Ok, if◌then◌else◌}
use Rattle.cli_sigs.specs.declared.signature.RowCounts.{RowCounts}
use Rattle.cli_sigs.specs.declared.signature.SigTy.{SigTy}
use Rattle.cli_sigs.specs.declared.signature.SigTy.TheVariants as sig
use Rattle.cli_sigs.specs.declared.signature.SigMethod.{SigMethod}
use Rattle.cli_sigs.specs.declared.element.Simple.{Simple}
use Rattle.cli_sigs.specs.declared.element.Simple.TheVariants as simple
use Rattle.cli_sigs.specs.declared.element.Constructor.{Constructor}
use Rattle.cli_sigs.specs.declared.element.Constructor.TheVariants as constructor
use Rattle.cli_sigs.specs.declared.marks.Before.TheVariants as before
use Rattle.cli_sigs.specs.declared.types.Callee.{Callee}
use Rattle.cli_sigs.specs.declared.types.Callee.TheVariants as callee
use Rattle.cli_sigs.specs.Reading.{Answer, Part, ◌>>=◌, refused, repeated}
use Rattle.cli_sigs.specs.Compressed.{number_at, type_name_at, variable_at, counted_at, arguments_at}
use Rattle.cli_sigs.specs.Element.{simple_of, constructor_of}
use Rattle.cli_sigs.specs.Marks.{marked}

-- what reads a part
abbrev pub Reader : Type 0 → Type 0
Reader X = List ℕ → Part X

-- behind the code of a simple type
unfoldable pub simple_at : RowCounts → ℕ → Simple → Reader SigTy
simple_at counts code simple.BuiltIn rest = Ok (sig.BuiltIn code, rest)
simple_at counts code simple.ValueType rest = type_name_at counts rest >>= λ name. Ok (sig.Inst name.0 true [], name.1)
simple_at counts code simple.Class rest = type_name_at counts rest >>= λ name. Ok (sig.Inst name.0 false [], name.1)
simple_at counts code simple.Var rest = variable_at rest >>= λ n. Ok (sig.Var n.0, n.1)
simple_at counts code simple.TypedByRef rest = Ok (sig.Odd code, rest)
simple_at counts code simple.MVar rest = variable_at rest >>= λ n. Ok (sig.MVar n.0, n.1)

-- In what follows, one reads the types that stand one level deeper.

-- a type behind its modifiers
unfoldable pub marked_type_at : RowCounts → Reader SigTy → Reader SigTy
marked_type_at counts one bytes = marked counts before.Type one bytes

unfoldable pub void_or_type_at : Reader SigTy → Reader SigTy
void_or_type_at one [] = one []
void_or_type_at one (code ∷ rest) = if code == 0x01 then Ok (sig.BuiltIn code, rest) else one (code ∷ rest)

-- what a method returns and a pointer leads to: void or a type, behind its modifiers
unfoldable pub target_at : RowCounts → Reader SigTy → Reader SigTy
target_at counts one bytes = marked counts before.Type (void_or_type_at one) bytes

-- a count and that many numbers
unfoldable pub numbers_at : List ℕ → Answer (List ℕ)
numbers_at bytes = counted_at number_at bytes >>= λ numbers. Ok numbers.1

-- an array's element, and its shape: rank, sizes, lower bounds (II.23.2.13)
unfoldable pub array_at : Reader SigTy → Reader SigTy
array_at one bytes = do
  element ← one bytes
  rank ← number_at element.1
  sizes ← numbers_at rank.1
  bounds ← numbers_at sizes
  Ok (sig.Odd 0x14, bounds)

-- the code behind an instantiation's: value type or class
unfoldable pub is_value_at : Reader Bool
is_value_at [] = refused []
is_value_at (code ∷ rest) =
    if code == 0x11 then Ok (true, rest)
    else if code == 0x12 then Ok (false, rest)
    else refused (code ∷ rest)

-- whether it is a value type, the generic type, and its arguments
unfoldable pub generic_inst_at : RowCounts → Reader SigTy → Reader SigTy
generic_inst_at counts one bytes = do
  value ← is_value_at bytes
  name ← type_name_at counts value.1
  args ← arguments_at one name.1
  Ok (sig.Inst name.0 value.0 args.0, args.1)

abbrev pub has_flag : ℕ → ℕ → Bool
has_flag flags flag = not (bit_and flags flag == 0)

-- the low four bits: the default convention or vararg, and behind a function pointer the unmanaged ones too
abbrev pub is_convention : Callee → ℕ → Bool
is_convention callee.Member convention = convention == 0 || convention == 5
is_convention callee.Pointer convention = nat_le convention 5 || convention == 9

-- has this 20, explicit this 40, generic 10
abbrev pub are_flags : Callee → ℕ → Bool
are_flags who flags = not (has_flag flags 0x80) && is_convention who (bit_and flags 0x0F)

unfoldable pub flags_at : Callee → Reader ℕ
flags_at who [] = refused []
flags_at who (flags ∷ rest) = if are_flags who flags then Ok (flags, rest) else refused (flags ∷ rest)

-- the number of generic parameters, where the flags say that it stands there
unfoldable pub generic_count_at : ℕ → Reader ℕ
generic_count_at flags bytes = if has_flag flags 0x10 then number_at bytes else Ok (0, bytes)

-- the mark that the variable arguments begin
unfoldable pub past_sentinel : List ℕ → List ℕ
past_sentinel [] = []
past_sentinel (code ∷ rest) = if code == 0x41 then rest else code ∷ rest

unfoldable pub param_at : RowCounts → Reader SigTy → Reader SigTy
param_at counts one bytes = marked_type_at counts one (past_sentinel bytes)

unfoldable pub method_at : RowCounts → Reader SigTy → Callee → Reader SigMethod
method_at counts one who bytes = do
  flags ← flags_at who bytes
  generic ← generic_count_at flags.0 flags.1
  count ← number_at generic.1
  ret ← target_at counts one count.1
  params ← repeated (param_at counts one) count.0 ret.1
  Ok (record { has_this = has_flag flags.0 0x20; vararg = bit_and flags.0 0x0F == 5; generic = generic.0; ret = ret.0; params = params.0 }, params.1)

-- behind the code of a constructor
unfoldable pub constructed_at : RowCounts → Reader SigTy → Constructor → Reader SigTy
constructed_at counts one constructor.Ptr rest = target_at counts one rest >>= λ t. Ok (sig.Ptr t.0, t.1)
constructed_at counts one constructor.ByRef rest = marked_type_at counts one rest >>= λ t. Ok (sig.ByRef t.0, t.1)
constructed_at counts one constructor.SzArray rest = marked_type_at counts one rest >>= λ t. Ok (sig.Array t.0, t.1)
constructed_at counts one constructor.Array rest = array_at one rest
constructed_at counts one constructor.GenericInst rest = generic_inst_at counts one rest
constructed_at counts one constructor.FnPtr rest = method_at counts one callee.Pointer rest >>= λ m. Ok (sig.Odd 0x1B, m.1)

-- a constructor needs a level that is left
abbrev pub constructor_at : RowCounts → Option (Reader SigTy) → Option Constructor → ℕ → Reader SigTy
constructor_at counts (Some one) (Some constructor) code rest = constructed_at counts one constructor rest
constructor_at counts _ _ code rest = refused (code ∷ rest)

abbrev pub coded_at : RowCounts → Option (Reader SigTy) → Option Simple → ℕ → Reader SigTy
coded_at counts one (Some simple) code rest = simple_at counts code simple rest
coded_at counts one None code rest = constructor_at counts one (constructor_of code) code rest

-- one level: a code and what stands behind it
unfoldable pub level_at : RowCounts → Option (Reader SigTy) → Reader SigTy
level_at counts one [] = refused []
level_at counts one (code ∷ rest) = coded_at counts one (simple_of code) code rest

-- a type with at most that many constructors nested
unfoldable pub type_at : RowCounts → ℕ → Reader SigTy
type_at counts zero = level_at counts None
type_at counts (suc levels) = level_at counts (Some (type_at counts levels))

-- What the first code of a type says (II.23.1.16).
use Rattle.std.specs.Prelude.{ℕ, Bool, ◌&&◌, ◌||◌, nat_le, ◌==◌, Option, Some, None, if◌then◌else◌}
use Rattle.cli_sigs.specs.declared.element.Simple.{Simple}
use Rattle.cli_sigs.specs.declared.element.Simple.TheVariants as simple
use Rattle.cli_sigs.specs.declared.element.Constructor.{Constructor}
use Rattle.cli_sigs.specs.declared.element.Constructor.TheVariants as constructor

-- Boolean to String, IntPtr, UIntPtr, Object
abbrev pub is_built_in : ℕ → Bool
is_built_in code = (nat_le 0x02 code && nat_le code 0x0E) || code == 0x18 || code == 0x19 || code == 0x1C

unfoldable pub simple_of : ℕ → Option Simple
simple_of code =
    if is_built_in code then Some simple.BuiltIn
    else if code == 0x11 then Some simple.ValueType
    else if code == 0x12 then Some simple.Class
    else if code == 0x13 then Some simple.Var
    else if code == 0x16 then Some simple.TypedByRef
    else if code == 0x1E then Some simple.MVar
    else None

unfoldable pub constructor_of : ℕ → Option Constructor
constructor_of code =
    if code == 0x0F then Some constructor.Ptr
    else if code == 0x10 then Some constructor.ByRef
    else if code == 0x14 then Some constructor.Array
    else if code == 0x15 then Some constructor.GenericInst
    else if code == 0x1B then Some constructor.FnPtr
    else if code == 0x1D then Some constructor.SzArray
    else None

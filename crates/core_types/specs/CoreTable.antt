-- The table of the core library, as definitions read it.
use Rattle.std.specs.Prelude.{ℕ, ◌+◌, List, [], map, false, None, get_or}
use Rattle.clr_base.specs.declared.ids.DefId.{DefId}
use Rattle.core_types.specs.declared.core_type.CoreType.{CoreType}
use Rattle.core_types.specs.declared.core_type.CoreType.TheVariants as known
use Rattle.core_types.specs.declared.core_table.CoreDef.{CoreDef}
use Rattle.core_types.specs.declared.core_table.CoreMethod.{CoreMethod}
use Rattle.core_types.specs.declared.core_table.DefKind.TheVariants.{Class}
use Rattle.core_types.specs.declared.core_table.MemberName.{MemberName}
use Rattle.core_types.specs.declared.core_table.MemberName.TheVariants as member
use Rattle.core_types.specs.declared.core_table.TheConstants.{CORE_DEFS, CORE_METHODS, CORE_NAMES}
use Rattle.clr_base.specs.Core as base

-- the number of a type, which is its definition's
abbrev pub number_of : CoreType → ℕ
number_of known.Object = 0
number_of known.ValueType = 1
number_of known.Enum = 2
number_of known.Void = 3
number_of known.Boolean = 4
number_of known.Char = 5
number_of known.SByte = 6
number_of known.Byte = 7
number_of known.Int16 = 8
number_of known.UInt16 = 9
number_of known.Int32 = 10
number_of known.UInt32 = 11
number_of known.Int64 = 12
number_of known.UInt64 = 13
number_of known.IntPtr = 14
number_of known.UIntPtr = 15
number_of known.Single = 16
number_of known.Double = 17
number_of known.String = 18
number_of known.Array = 19
number_of known.TypeObject = 20
number_of known.RuntimeTypeHandle = 21
number_of known.Canon = 22
number_of known.IComparable = 23
number_of known.IEquatable = 24
number_of known.IComparer = 25
number_of known.IDisposable = 26
number_of known.Attribute = 27
number_of known.Exception = 28
number_of known.SystemException = 29
number_of known.ArgumentException = 30
number_of known.InvalidOperationException = 31
number_of known.Delegate = 32
number_of known.MulticastDelegate = 33
number_of known.Nullable = 34
number_of known.Console = 35

-- how many definitions the core has, how many methods, and how many names: one for each definition, and 16 of methods
abbrev pub core_defs : ℕ
core_defs = base.core_defs

abbrev pub core_methods : ℕ
core_methods = base.core_methods

abbrev pub core_names : ℕ
core_names = 52

abbrev pub def_id : CoreType → DefId
def_id t = record { 0 = number_of t }

-- the number of a method's name among those of methods
abbrev pub member_number : MemberName → ℕ
member_number member.Ctor = 0
member_number member.ToString = 1
member_number member.Equals = 2
member_number member.GetHashCode = 3
member_number member.GetType = 4
member_number member.CompareTo = 5
member_number member.GetLength = 6
member_number member.GetChars = 7
member_number member.Concat = 8
member_number member.OpEquality = 9
member_number member.GetTypeFromHandle = 10
member_number member.Compare = 11
member_number member.Dispose = 12
member_number member.GetMessage = 13
member_number member.WriteLine = 14
member_number member.Write = 15

-- the texts that names are taken from: the definitions', then the methods'
abbrev pub texts : List (List ℕ)
texts = map (λ t. t.now) CORE_NAMES

unfoldable pub text : ℕ → List ℕ
text n = get_or texts n []

-- the full name of the definition with a number
unfoldable pub def_text : ℕ → List ℕ
def_text k = text k

-- the name of a method
unfoldable pub member_text : MemberName → List ℕ
member_text n = text (core_defs + member_number n)

-- the row of the definition with a number
unfoldable pub row : ℕ → CoreDef
row k = get_or CORE_DEFS k (record { kind = Class; parent = None; formal = None; is_comparable = false })

-- the rows of its methods, none where there is no such definition
unfoldable pub method_rows : ℕ → List CoreMethod
method_rows k = get_or (map (λ rows. rows.now) CORE_METHODS) k []

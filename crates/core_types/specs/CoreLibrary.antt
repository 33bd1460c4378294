-- The core library as definitions, methods and names.
use Rattle.std.specs.Prelude.{ℕ, List, [], ◌∷◌, ◌++◌, map, length, sum_by, Bool, true, false, Option, None, Some}
use Rattle.std.specs.List.{flat_map, range_with_len}
use Rattle.clr_base.specs.declared.ids.DefId.{DefId}
use Rattle.clr_base.specs.declared.ids.NameId.{NameId}
use Rattle.type_tree.specs.declared.tree.Ty.{Ty}
use Rattle.type_tree.specs.declared.tree.Ty.TheVariants as ty
use Rattle.type_tree.specs.declared.definition.Def.{Def}
use Rattle.type_tree.specs.declared.definition.Formal.{Formal}
use Rattle.type_tree.specs.declared.definition.Method.{Method}
use Rattle.core_types.specs.declared.core_parts.CoreParts.{CoreParts}
use Rattle.core_types.specs.declared.core_type.CoreType.{CoreType}
use Rattle.core_types.specs.declared.core_type.CoreType.TheVariants.{IComparable, IEquatable}
use Rattle.core_types.specs.declared.core_table.CoreMethod.{CoreMethod}
use Rattle.core_types.specs.declared.core_table.DefKind.{DefKind}
use Rattle.core_types.specs.declared.core_table.DefKind.TheVariants as def
use Rattle.core_types.specs.declared.core_table.FormalKind.{FormalKind}
use Rattle.core_types.specs.declared.core_table.FormalKind.TheVariants.{Invariant, Contravariant}
use Rattle.core_types.specs.declared.core_table.MethodKind.{MethodKind}
use Rattle.core_types.specs.declared.core_table.MethodKind.TheVariants as method
use Rattle.core_types.specs.declared.core_table.Params.{Params}
use Rattle.core_types.specs.declared.core_table.Params.TheVariants.{Zero, One, Two, Three}
use Rattle.core_types.specs.declared.core_table.SigType.{SigType}
use Rattle.core_types.specs.declared.core_table.SigType.TheVariants.{Core, Parameter}
use Rattle.core_types.specs.CoreTable.{core_defs, def_id, def_text, member_text, row, method_rows}
use Rattle.core_types.specs.Names.{first_seen, id_in}

-- ---- names

-- the name of each definition, then that of each method
abbrev pub texts_in_order : List (List ℕ)
texts_in_order =
    map def_text (range_with_len 0 core_defs)
    ++ flat_map (λ k. map (λ m. member_text m.name) (method_rows k)) (range_with_len 0 core_defs)

unfoldable pub names : List (List ℕ)
names = first_seen texts_in_order

unfoldable pub name_id : List ℕ → NameId
name_id text = id_in names text

-- ---- trees

-- a type without arguments
abbrev pub plain : CoreType → Ty
plain t = ty.Inst (def_id t) []

-- the type that a definition without generic parameters is
abbrev pub itself : DefId → Ty
itself d = ty.Inst d []

-- a definition with one argument
abbrev pub with_argument : CoreType → Ty → Ty
with_argument generic t = ty.Inst (def_id generic) (t ∷ [])

abbrev pub tree_of : SigType → Ty
tree_of (Core t) = plain t
tree_of Parameter = ty.Var 0

abbrev pub trees_of : Params → List Ty
trees_of Zero = []
trees_of (One a) = tree_of a ∷ []
trees_of (Two a b) = tree_of a ∷ tree_of b ∷ []
trees_of (Three a b c) = tree_of a ∷ tree_of b ∷ tree_of c ∷ []

-- ---- definitions

-- the flags of a type (ECMA-335 II.23.1.15): interface 0x20, abstract 0x80, sealed 0x100
abbrev pub def_flags : DefKind → ℕ
def_flags def.Class = 0x0
def_flags def.Abstract = 0x80
def_flags def.Sealed = 0x100
def_flags def.Static = 0x180
def_flags def.Value = 0x100
def_flags def.Interface = 0xA0

-- the flags of a generic parameter (II.23.1.7): contravariant 2
abbrev pub formal_flags : FormalKind → ℕ
formal_flags Invariant = 0
formal_flags Contravariant = 2

abbrev pub formals_of : Option FormalKind → List Formal
formals_of None = []
formals_of (Some f) = record { flags = formal_flags f; constraints = [] } ∷ []

abbrev pub parent_of : Option CoreType → Option Ty
parent_of None = None
parent_of (Some t) = Some (plain t)

-- the interfaces of a type that can be compared with itself
abbrev pub interfaces_of : Bool → DefId → List Ty
interfaces_of false self = []
interfaces_of true self = with_argument IComparable (itself self) ∷ with_argument IEquatable (itself self) ∷ []

-- how many methods the definitions before one have
unfoldable pub methods_before : ℕ → ℕ
methods_before k = sum_by length (map method_rows (range_with_len 0 k))

-- the definition with a number
unfoldable pub def_of : ℕ → Def
def_of k = record {
  name = name_id (def_text k);
  file = 0;
  flags = def_flags (row k).kind;
  formals = formals_of (row k).formal;
  parent = parent_of (row k).parent;
  interfaces = interfaces_of (row k).is_comparable (record { 0 = k });
  first_field = 0;
  fields = 0;
  first_method = methods_before k;
  methods = length (method_rows k);
  impls = [];
  packing = 0;
  least_size = 0;
}

-- ---- methods

-- the flags of a method (II.23.1.10): public 6, static 0x10, final 0x20, virtual 0x40, newslot 0x100,
-- abstract 0x400
abbrev pub method_flags : MethodKind → ℕ
method_flags method.Instance = 0x6
method_flags method.Static = 0x16
method_flags method.Override = 0x46
method_flags method.NewSlot = 0x146
method_flags method.Final = 0x166
method_flags method.Interface = 0x546

-- whether it is called on an instance
abbrev pub has_this : MethodKind → Bool
has_this method.Static = false
has_this _ = true

-- the method of a row, of the definition with a number
unfoldable pub method_of : ℕ → CoreMethod → Method
method_of k m = record {
  name = name_id (member_text m.name);
  def = record { 0 = k };
  flags = method_flags m.kind;
  has_this = has_this m.kind;
  vararg = false;
  formals = [];
  ret = plain m.ret;
  params = trees_of m.params;
}

-- the methods of the definition with a number
abbrev pub methods_of : ℕ → List Method
methods_of k = map (method_of k) (method_rows k)

-- ---- the whole

unfoldable pub defs : List Def
defs = map def_of (range_with_len 0 core_defs)

unfoldable pub methods : List Method
methods = flat_map methods_of (range_with_len 0 core_defs)

unfoldable pub core_library : CoreParts
core_library = record { names = names; defs = defs; methods = methods; fields = [] }

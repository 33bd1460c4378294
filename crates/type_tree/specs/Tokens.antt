-- Which signature and which member a token stands for (ECMA-335 II.22, III.1.9).
use Rattle.std.specs.Prelude.{ℕ, ◌+◌, ◌*◌, ◌/◌, ◌%◌, ◌-◌, ◌<◌, ◌&&◌, ◌==◌, nat_lt, nat_le, List, length, Option, None, Some, slice_get, unwrap_or, if◌then◌else◌}
use Rattle.std.specs.Option.{option_and_then}
use Rattle.type_tree.specs.declared.parts.Locals.{Locals}
use Rattle.type_tree.specs.declared.parts.Member.{Member}
use Rattle.type_tree.specs.declared.parts.Member.TheVariants as member
use Rattle.type_tree.specs.declared.parts.Token.{Token}
use Rattle.type_tree.specs.declared.parts.WorldFile.{WorldFile}
use Rattle.type_tree.specs.World.{Facts}

-- the file with a number, from 1
abbrev pub file_at : List WorldFile → ℕ → Option WorldFile
file_at files n = if n == 0 then None else slice_get files (n - 1)

-- how many rows name types, and how many name members
abbrev pub type_rows : WorldFile → ℕ
type_rows f = f.type_defs + f.type_refs + f.type_specs

abbrev pub member_rows : WorldFile → ℕ
member_rows f = f.fields + f.methods + length f.member_refs + length f.method_specs

-- how many signatures there are before those of the local variables
abbrev pub row_sigs : WorldFile → ℕ
row_sigs f = 2 * type_rows f + member_rows f

-- the numbers of a file's signatures, fields and methods are below 2 ^ 32
pub record IsNumbered (f : WorldFile) : Type 0 where
  pub sigs : f.first_sig.0 + row_sigs f < 4294967296
  pub fields : f.first_field.0 + f.fields < 4294967296
  pub methods : f.first_method.0 + f.methods < 4294967296

-- what stands for a row, where it is one of so many; rows count from 1
abbrev pub in_rows : ℕ → ℕ → Token → Option Token
in_rows rows row t = if nat_lt 0 row && nat_le row rows then Some t else None

-- a row of a table of types, where `before` rows of types stand before the table's: its signature,
-- and that of its array
abbrev pub type_token : WorldFile → ℕ → ℕ → Token
type_token f before row =
    record {
      sig = record { 0 = f.first_sig.0 + before + (row - 1) };
      array = Some (record { 0 = f.first_sig.0 + type_rows f + before + (row - 1) });
      member = member.NoMember;
    }

-- a row of a table of members, where `before` rows of members stand before the table's
abbrev pub member_token : WorldFile → ℕ → ℕ → Member → Token
member_token f before row m =
    record { sig = record { 0 = f.first_sig.0 + 2 * type_rows f + before + (row - 1) }; array = None; member = m }

-- the member of a Field and of a MethodDef row: a row that no definition owns has none
abbrev pub field_of : WorldFile → ℕ → Member
field_of f row = if nat_le row f.loose_fields then member.Lost else member.Field (record { 0 = f.first_field.0 + (row - 1) })

abbrev pub method_of : WorldFile → ℕ → Member
method_of f row = if nat_le row f.loose_methods then member.Lost else member.Method (record { 0 = f.first_method.0 + (row - 1) })

-- the member of a MemberRef and of a MethodSpec row
abbrev pub listed : List Member → ℕ → Member
listed members row = unwrap_or (slice_get members (row - 1)) member.Lost

-- a row of a table: TypeDef, TypeRef, TypeSpec, Field, MethodDef, MemberRef, MethodSpec
unfoldable pub row_token : WorldFile → ℕ → ℕ → Option Token
row_token f table row =
    if table == 0x02 then in_rows f.type_defs row (type_token f 0 row)
    else if table == 0x01 then in_rows f.type_refs row (type_token f f.type_defs row)
    else if table == 0x1B then in_rows f.type_specs row (type_token f (f.type_defs + f.type_refs) row)
    else if table == 0x04 then in_rows f.fields row (member_token f 0 row (field_of f row))
    else if table == 0x06 then in_rows f.methods row (member_token f f.fields row (method_of f row))
    else if table == 0x0A
    then in_rows (length f.member_refs) row (member_token f (f.fields + f.methods) row (listed f.member_refs row))
    else if table == 0x2B
    then in_rows (length f.method_specs) row (member_token f (f.fields + f.methods + length f.member_refs) row (listed f.method_specs row))
    else None

-- a token is the number of its table in the highest byte, and its row
abbrev pub token : Facts → ℕ → ℕ → Option Token
token w file t = option_and_then (λ f. row_token f (t / 16777216) (t % 16777216)) (file_at w.files file)

-- the local variables that a StandAloneSig row lists
abbrev pub row_locals : WorldFile → ℕ → Option Locals
row_locals f row = if row == 0 then None else unwrap_or (slice_get f.locals (row - 1)) None

abbrev pub locals : Facts → ℕ → ℕ → Option Locals
locals w file row = option_and_then (λ f. row_locals f row) (file_at w.files file)

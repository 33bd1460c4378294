-- The members of a world by their definitions, and those that a name and a signature find.
use Rattle.std.specs.Prelude.{ℕ, ◌+◌, ◌==◌, ◌&&◌, List, [], ◌∷◌, ◌++◌, map, length, Bool, true, false, Option, slice_get, get_or}
use Rattle.std.specs.Option.{option_map, option_map_or, option_and_then}
use Rattle.std.specs.List.{find, range_with_len, flat_map, enumerate_from}
use Rattle.std.proofs.Math.ListN.{replicate}
use Rattle.clr_base.specs.declared.ids.FieldId.{FieldId}
use Rattle.clr_base.specs.declared.ids.MethId.{MethId}
use Rattle.clr_base.specs.declared.ids.NameId.{NameId}
use Rattle.cli_sigs.specs.declared.signature.SigMethod.{SigMethod}
use Rattle.cli_tables.specs.Metadata.{Metadata}
use Rattle.type_tree.specs.declared.definition.Def.{Def}
use Rattle.type_tree.specs.declared.definition.Method.{Method}
use Rattle.type_tree.specs.declared.tree.Ty.{Ty}
use Rattle.type_tree.specs.contracts.tree.Ty as row-of-ty
use Rattle.type_tree.specs.Same.{same}
use Rattle.type_members.specs.declared.member_table.MemberTable.{MemberTable}
use Rattle.type_members.specs.declared.member_table.Run.{Run}
pub use Rattle.type_members.specs.declared.open_method.Open.{Open}
use Rattle.type_names.specs.declared.type_rows.TypeRows.{TypeRows}
use Rattle.core_types.specs.CoreLibrary as core
use Rattle.core_types.specs.CoreTable.{core_methods}
use Rattle.image_rows.specs.Cells.{rows_of, before_run, run_len}
use Rattle.type_members.specs.Members.{file_methods, file_generics, file_fields}
use Rattle.type_names.specs.Resolution.{rows_before}
use Rattle.type_members.specs.Trees.{tree, trees}
use Rattle.type_names.specs.WorldNames.{file_names}

-- ---- the whole table; the core has no fields

abbrev pub core_run : Def → Run
core_run d = record { first_field = d.first_field; fields = d.fields; first_method = d.first_method; methods = d.methods }

-- the run of the definition in a TypeDef row (II.22.37), where so many fields and methods of files stand before its file's
unfoldable pub run_at : ℕ → ℕ → Metadata → ℕ → Run
run_at fields methods m row = record {
  first_field = fields + before_run m 4 0x04 row;
  fields = run_len m 4 0x04 row;
  first_method = core_methods + methods + before_run m 5 0x06 row;
  methods = run_len m 5 0x06 row;
}

abbrev pub run_of : List Metadata → ℕ → Metadata → ℕ → Run
run_of files k m row = run_at (rows_before files k 0x04) (rows_before files k 0x06) m row

-- what each file gives, one after the other; files are counted from 0 here
abbrev pub of_each : {X : Type 0} → (ℕ → Metadata → List X) → List Metadata → List X
of_each give files = flat_map (λ ((k, m) : ℕ × Metadata). give k m) (enumerate_from 0 files)

unfoldable pub member_table : List Metadata → MemberTable
member_table files = record {
  runs = map core_run core.defs ++ of_each (λ k m. map (run_of files k m) (rows_of m 0x02)) files;
  methods = core.methods ++ of_each (λ k m. file_methods (file_names files k m) m) files;
  generics = replicate (length core.methods) 0 ++ of_each (λ k m. file_generics m) files;
  fields = of_each (λ k m. file_fields (file_names files k m) m) files;
}

-- ---- members by name and signature

-- what is compared of a method that a signature tells (II.23.2.1, II.23.2.2)
unfoldable pub open_of : TypeRows → SigMethod → Open
open_of s m = record { has_this = m.has_this; vararg = m.vararg; generic = m.generic; ret = tree s m.ret; params = trees s m.params }

-- what is compared of a method of the world
abbrev pub open_method : Method → ℕ → Open
open_method m generic = record { has_this = m.has_this; vararg = m.vararg; generic = generic; ret = m.ret; params = m.params }

abbrev pub same_tree : Ty → Ty → Bool
same_tree = same row-of-ty.the_row.coded

abbrev pub same_trees : List Ty → List Ty → Bool
same_trees [] [] = true
same_trees (t ∷ ts) (u ∷ us) = same_tree t u && same_trees ts us
same_trees _ _ = false

abbrev pub same_bool : Bool → Bool → Bool
same_bool true b = b
same_bool false true = false
same_bool false false = true

abbrev pub same_open : Open → Open → Bool
same_open a b =
    same_bool a.has_this b.has_this && same_bool a.vararg b.vararg && a.generic == b.generic && same_tree a.ret b.ret
    && same_trees a.params b.params

abbrev pub same_name : NameId → NameId → Bool
same_name a b = a.0 == b.0

abbrev pub method_id : ℕ → MethId
method_id i = record { 0 = i }

abbrev pub field_id : ℕ → FieldId
field_id i = record { 0 = i }

-- a method has a name and a signature
abbrev pub is_method : MemberTable → NameId → Open → ℕ → Bool
is_method w name wanted i =
    option_map_or (λ m. same_name m.name name && same_open (open_method m (get_or w.generics i 0)) wanted) (slice_get w.methods i) false

-- the first own method of a definition with them
unfoldable pub own_method : MemberTable → ℕ → NameId → Open → Option MethId
own_method w d name wanted =
    option_and_then
    (λ r. option_map method_id (find (is_method w name wanted) (range_with_len r.first_method r.methods)))
    (slice_get w.runs d)

-- a field has a name and a type
abbrev pub is_field : MemberTable → NameId → Ty → ℕ → Bool
is_field w name t i = option_map_or (λ f. same_name f.name name && same_tree f.ty t) (slice_get w.fields i) false

-- the first own field of a definition with them
unfoldable pub own_field : MemberTable → ℕ → NameId → Ty → Option FieldId
own_field w d name t =
    option_and_then (λ r. option_map field_id (find (is_field w name t) (range_with_len r.first_field r.fields))) (slice_get w.runs d)

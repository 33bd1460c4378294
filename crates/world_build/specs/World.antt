-- The world of some files that no check refuses, before its roots.
use Rattle.std.specs.Prelude.{ℕ, ◌+◌, List, [], ◌∷◌, ◌++◌, map, length, Option, None}
use Rattle.std.proofs.Math.ListN.{replicate}
use Rattle.cli_tables.specs.Metadata.{Metadata}
use Rattle.type_tree.specs.declared.definition.Def.{Def}
use Rattle.type_tree.specs.declared.parts.BodyPlace.{BodyPlace}
use Rattle.type_tree.specs.declared.parts.WorldFile.{WorldFile}
use Rattle.type_tree.specs.declared.parts.WorldParts.{WorldParts}
use Rattle.core_types.specs.declared.core_type.CoreType.TheVariants as known
use Rattle.core_types.specs.CoreLibrary as core
use Rattle.core_types.specs.CoreTable.{core_methods, def_id}
use Rattle.world_build.specs.Bodies.{file_bodies}
use Rattle.image_rows.specs.Cells.{rows, rows_of, loose}
use Rattle.type_members.specs.Definitions.{def_of}
use Rattle.image_rows.specs.Image.{metadata_in}
use Rattle.type_members.specs.MemberTable.{member_table, of_each, run_of}
use Rattle.image_files.specs.Images.{tables_in}
use Rattle.world_build.specs.References.{Reader, member_ref, method_spec, impls_of}
use Rattle.type_names.specs.Resolution.{rows_before}
use Rattle.world_build.specs.Signatures.{well_known, file_keys, first_sig, locals_of}
use Rattle.type_names.specs.WorldNames.{names, file_names, type_rows}

-- ---- what the rows of each file are read by

unfoldable pub reader : List Metadata → ℕ → Metadata → Reader
reader files k m = record {
  names = names files;
  members = member_table files;
  types = type_rows files k m;
  tables = m;
  first_method = core_methods + rows_before files k 0x06;
}

-- ---- definitions

unfoldable pub file_defs : List Metadata → ℕ → Metadata → List Def
file_defs files k m =
    map (λ row. def_of (file_names files k m) m (k + 1) (run_of files k m row) (impls_of (reader files k m) row) row) (rows_of m 0x02)

-- ---- files

-- a file with these bytes, whose rows are read so, by the numbers of its first signature, field and method
unfoldable pub file_of : Reader → List ℕ → ℕ → ℕ → ℕ → WorldFile
file_of w bytes sig field method = record {
  first_sig = record { 0 = sig };
  type_defs = rows w.tables 0x02;
  type_refs = rows w.tables 0x01;
  type_specs = rows w.tables 0x1B;
  first_field = record { 0 = field };
  fields = rows w.tables 0x04;
  loose_fields = loose w.tables 4 0x04;
  first_method = record { 0 = method };
  methods = rows w.tables 0x06;
  loose_methods = loose w.tables 5 0x06;
  member_refs = map (member_ref w) (rows_of w.tables 0x0A);
  method_specs = map (method_spec w) (rows_of w.tables 0x2B);
  locals = locals_of w.tables sig;
  users = w.tables.users;
  bytes = bytes;
}

unfoldable pub world_file : List Metadata → List ℕ → ℕ → Metadata → WorldFile
world_file files bytes k m =
    file_of (reader files k m) bytes (first_sig files k) (rows_before files k 0x04) (core_methods + rows_before files k 0x06)

-- ---- the whole

abbrev pub no_body : Option BodyPlace
no_body = None

-- what each file gives, its bytes given with its number
abbrev pub of_bytes : {X : Type 0} → (List ℕ → ℕ → Metadata → List X) → ℕ → List (List ℕ) → List X
of_bytes give k [] = []
of_bytes give k (b ∷ bs) = give b k (metadata_in b) ++ of_bytes give (k + 1) bs

unfoldable pub world : List (List ℕ) → WorldParts
world files = record {
  names = names (tables_in files);
  defs = core.defs ++ of_each (file_defs (tables_in files)) (tables_in files);
  methods = (member_table (tables_in files)).methods;
  bodies = replicate (length core.methods) no_body ++ of_bytes (λ b k m. file_bodies b (k + 1) m) 0 files;
  fields = (member_table (tables_in files)).fields;
  sigs = well_known ++ of_each (λ k m. file_keys (reader (tables_in files) k m)) (tables_in files);
  roots = [];
  files = of_bytes (λ b k m. world_file (tables_in files) b k m ∷ []) 0 files;
  value_type = def_id known.ValueType;
  enumeration = def_id known.Enum;
  canon = def_id known.Canon;
}

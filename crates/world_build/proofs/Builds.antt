-- The world of files that pass their checks, put together of its parts.
use Rattle.std.proofs.Common.{◌≡◌, ℕ, ◌+◌, true, List, [], ◌∷◌, ◌++◌, length, replicate, Option, sym, ap, ◌∙◌, subst, arith}
use Rattle.cli_tables.specs.Metadata.{Metadata}
use Rattle.clr_base.specs.declared.ids.DefId.{DefId}
use Rattle.type_tree.specs.declared.definition.Def.{Def}
use Rattle.type_tree.specs.declared.definition.Field.{Field}
use Rattle.type_tree.specs.declared.definition.Method.{Method}
use Rattle.type_tree.specs.declared.parts.BodyPlace.{BodyPlace}
use Rattle.type_tree.specs.declared.parts.Root.{Root}
use Rattle.type_tree.specs.declared.parts.WorldFile.{WorldFile}
use Rattle.type_tree.specs.declared.parts.WorldParts.{WorldParts}
use Rattle.type_tree.specs.declared.tree.Key.{Key}
use Rattle.core_types.specs.declared.core_type.CoreType.TheVariants as known
use Rattle.type_members.specs.declared.member_table.MemberTable.{MemberTable}
use Rattle.world_build.specs.Bodies.{file_bodies}
use Rattle.core_types.specs.CoreLibrary as core
use Rattle.core_types.specs.CoreTable.{def_id}
use Rattle.image_files.specs.Counts.{are_few, totals_of}
use Rattle.type_members.specs.MemberIndexes as index
use Rattle.type_members.specs.MemberTable.{member_table, of_each}
use Rattle.world_build.specs.Signatures.{file_keys, well_known}
use Rattle.world_build.specs.World.{file_defs, no_body, of_bytes, reader, world, world_file}
use Rattle.image_files.specs.Images.{tables_in}
use Rattle.type_names.specs.WorldNames.{names}
use Rattle.image_files.proofs.FewEnough.{are_below}
use Rattle.world_build.proofs.FewMembers.{few_members}

-- ---- few enough

pub members_few : (ms : List Metadata) (w : MemberTable) → w ≡ member_table ms → are_few (totals_of ms) ≡ true → index.AreFew w
unfolding totals_of
members_few ms w is few =
    let t = are_below (totals_of ms) few in
    subst (λ (x : MemberTable). index.AreFew x) (sym is) (few_members ms (omega (arith, t.methods)) (omega (arith, t.fields)))

-- ---- the parts

abbrev parts_of : List (List ℕ) → List Def → List Method → List (Option BodyPlace) → List Field → List Key → List WorldFile → WorldParts
parts_of ns defs methods bodies fields sigs files = record {
  names = ns;
  defs = defs;
  methods = methods;
  bodies = bodies;
  fields = fields;
  sigs = sigs;
  roots = [];
  files = files;
  value_type = def_id known.ValueType;
  enumeration = def_id known.Enum;
  canon = def_id known.Canon;
}

-- the world by the tables of its files
abbrev world_by : List (List ℕ) → List Metadata → WorldParts
world_by bytes ms =
    parts_of (names ms) (core.defs ++ of_each (file_defs ms) ms) (member_table ms).methods
    (replicate (length core.methods) no_body ++ of_bytes (λ b k m. file_bodies b (k + 1) m) 0 bytes) (member_table ms).fields
    (well_known ++ of_each (λ k m. file_keys (reader ms k m)) ms) (of_bytes (λ b k m. world_file ms b k m ∷ []) 0 bytes)

by_tables : (bytes : List (List ℕ)) (ms : List Metadata) → ms ≡ tables_in bytes → world_by bytes ms ≡ world bytes
unfolding world
by_tables bytes ms are = ap (world_by bytes) are

module _ (bytes : List (List ℕ)) (ms : List Metadata) (are : ms ≡ tables_in bytes) where
  pub world_is : (p : WorldParts) → p.names ≡ names ms → p.defs ≡ core.defs ++ of_each (file_defs ms) ms → p.methods ≡ (member_table ms).methods
      → p.bodies ≡ replicate (length core.methods) no_body ++ of_bytes (λ b k m. file_bodies b (k + 1) m) 0 bytes → p.fields ≡ (member_table ms).fields
      → p.sigs ≡ well_known ++ of_each (λ k m. file_keys (reader ms k m)) ms → p.roots ≡ [] → p.files ≡ of_bytes (λ b k m. world_file ms b k m ∷ []) 0 bytes
      → p.value_type ≡ def_id known.ValueType → p.enumeration ≡ def_id known.Enum → p.canon ≡ def_id known.Canon
      → p ≡ world bytes
  world_is p ns ds mets bods fs ss rs fls value enumeration canon =
      ap
      (λ (x : List (List ℕ)). record {
        names = x;
        defs = p.defs;
        methods = p.methods;
        bodies = p.bodies;
        fields = p.fields;
        sigs = p.sigs;
        roots = p.roots;
        files = p.files;
        value_type = p.value_type;
        enumeration = p.enumeration;
        canon = p.canon;
      })
      ns
      ∙ ap (λ (x : List Def). with_rest x p.methods p.bodies p.fields p.sigs p.roots p.files p.value_type p.enumeration p.canon) ds
      ∙ ap (λ (x : List Method). with_rest the_defs x p.bodies p.fields p.sigs p.roots p.files p.value_type p.enumeration p.canon) mets
      ∙ ap (λ (x : List (Option BodyPlace)). with_rest the_defs the_methods x p.fields p.sigs p.roots p.files p.value_type p.enumeration p.canon) bods
      ∙ ap (λ (x : List Field). with_rest the_defs the_methods the_bodies x p.sigs p.roots p.files p.value_type p.enumeration p.canon) fs
      ∙ ap (λ (x : List Key). with_rest the_defs the_methods the_bodies the_fields x p.roots p.files p.value_type p.enumeration p.canon) ss
      ∙ ap (λ (x : List Root). with_rest the_defs the_methods the_bodies the_fields the_sigs x p.files p.value_type p.enumeration p.canon) rs
      ∙ ap (λ (x : List WorldFile). with_rest the_defs the_methods the_bodies the_fields the_sigs [] x p.value_type p.enumeration p.canon) fls
      ∙ ap (λ (x : DefId). with_rest the_defs the_methods the_bodies the_fields the_sigs [] the_files x p.enumeration p.canon) value
      ∙ ap (λ (x : DefId). with_rest the_defs the_methods the_bodies the_fields the_sigs [] the_files (def_id known.ValueType) x p.canon) enumeration
      ∙ ap (λ (x : DefId). with_rest the_defs the_methods the_bodies the_fields the_sigs [] the_files (def_id known.ValueType) (def_id known.Enum) x) canon
      ∙ by_tables bytes ms are
    where
      with_rest : List Def → List Method → List (Option BodyPlace) → List Field → List Key → List Root → List WorldFile → DefId → DefId → DefId → WorldParts
      with_rest d m b f s r l v e c = record {
        names = names ms;
        defs = d;
        methods = m;
        bodies = b;
        fields = f;
        sigs = s;
        roots = r;
        files = l;
        value_type = v;
        enumeration = e;
        canon = c;
      }

      the_defs : List Def
      the_defs = core.defs ++ of_each (file_defs ms) ms

      the_methods : List Method
      the_methods = (member_table ms).methods

      the_bodies : List (Option BodyPlace)
      the_bodies = replicate (length core.methods) no_body ++ of_bytes (λ b k m. file_bodies b (k + 1) m) 0 bytes

      the_fields : List Field
      the_fields = (member_table ms).fields

      the_sigs : List Key
      the_sigs = well_known ++ of_each (λ k m. file_keys (reader ms k m)) ms

      the_files : List WorldFile
      the_files = of_bytes (λ b k m. world_file ms b k m ∷ []) 0 bytes

-- What MemberRef, MethodSpec and MethodImpl rows name is below the counts of a world.
use Rattle.std.proofs.Common.{◌≡◌, ℕ, ◌+◌, ◌-◌, ◌≤◌, true, false, List, [], length, Option, None, Some, refl, arith}
use Rattle.std.specs.Prelude.{◌&&◌, ◌==◌, nat_le}
use Rattle.std.specs.Option.{option_and_then}
use Rattle.std.proofs.lemmas.Bool.{lt-ltb, leb-true, leb-false}
use Rattle.clr_base.specs.declared.ids.FieldId.{FieldId}
use Rattle.clr_base.specs.declared.ids.MethId.{MethId}
use Rattle.cli_tables.specs.declared.schema.CodedIndex.TheVariants.{MemberRefParent}
use Rattle.type_tree.specs.declared.counts.Counts.{Counts}
use Rattle.type_tree.specs.declared.parts.Member.{Member}
use Rattle.type_tree.specs.declared.parts.Member.TheVariants as member
use Rattle.type_tree.specs.declared.tree.Ty.{Ty}
use Rattle.type_tree.specs.Fits.{fits, all_fit, key_fits, method_is_below, impl_fits, impls_fit}
use Rattle.type_tree.specs.Kinds.{head}
use Rattle.type_tree.specs.Whole.{member_fits}
use Rattle.image_rows.specs.declared.cells.RowOf.{RowOf}
use Rattle.image_rows.specs.Blobs.{begins_with}
use Rattle.image_rows.specs.Cells.{rows, at, coded, loose, owner_of, rows_with}
use Rattle.type_members.specs.MemberTable.{open_of, own_method, own_field}
use Rattle.world_build.specs.References.{Reader, ref_owner, ref_blob, ref_name_id, ref_field_sig, ref_method_sig, field_member, method_member, member_ref, def_member, ref_member, named_member, owner_type, named_owner, method_only, spec_row, spec_args, spec_method, method_spec, spec_key_at, spec_key, impl_member, impl_of, impls_of}
use Rattle.type_members.specs.Trees.{tree}
use Rattle.clr_base.proofs.ListFacts.{choose, all_of_map, both}
use Rattle.type_members.proofs.MembersFit.{own_method_within, own_field_within}
use Rattle.type_members.proofs.TreesFit.{RowsFit, nothing_fits, def_type_fits, trees_fit, type_at_row_fits}

-- what the rows of a file are read by is there
pub record ReaderFits (c : Counts) (w : Reader) : Type 0 where
  pub types : RowsFit c w.types
  pub methods : length w.members.methods ≤ c.methods
  pub fields : length w.members.fields ≤ c.fields
  pub own : w.first_method + rows w.tables 0x06 ≤ c.methods

module _ (c : Counts) (w : Reader) (ok : ReaderFits c w) where
  Fits : Ty → Type 0
  Fits t = fits c t ≡ true

  Known : Member → Type 0
  Known m = member_fits c m ≡ true

  -- ---- MemberRef

  pub ref_owner_fits : (row : ℕ) → fits c (ref_owner w row) ≡ true
  unfolding ref_owner
  ref_owner_fits row = type_at_row_fits c w.types ok.types w.tables (coded MemberRefParent (at w.tables 0x0A row 0))

  field_found : (d : Option ℕ) (row : ℕ) (o : Option FieldId)
      → option_and_then (λ d. own_field w.members d (ref_name_id w row) (tree w.types (ref_field_sig w.tables row))) d ≡ o
      → member_fits c (field_member o) ≡ true
  field_found d row None e = refl
  field_found None row (Some f) e = absurd cc
  field_found (Some d) row (Some f) e = lt-ltb f.0 c.fields (omega (arith, own_field_within w.members d _ _ f e, ok.fields))

  method_found : (d : Option ℕ) (row : ℕ) (o : Option MethId)
      → option_and_then (λ d. own_method w.members d (ref_name_id w row) (open_of w.types (ref_method_sig w.tables row))) d ≡ o
      → member_fits c (method_member o) ≡ true
  method_found d row None e = refl
  method_found None row (Some m) e = absurd cc
  method_found (Some d) row (Some m) e = lt-ltb m.0 c.methods (omega (arith, own_method_within w.members d _ _ m e, ok.methods))

  pub member_ref_fits : (row : ℕ) → member_fits c (member_ref w row) ≡ true
  unfolding member_ref
  member_ref_fits row =
      choose (λ m. member_fits c m ≡ true) (begins_with 0x06 (ref_blob w.tables row)) _ _
      (λ _. field_found (head (ref_owner w row)) row _ refl) (λ _. method_found (head (ref_owner w row)) row _ refl)

  -- ---- methods by MethodDefOrRef

  def_member_fits : (row : ℕ) → member_fits c (def_member w row) ≡ true
  def_member_fits row =
      choose (λ m. member_fits c m ≡ true) (nat_le row (loose w.tables 5 0x06)) _ _ (λ _. refl)
      (λ owned. choose (λ m. member_fits c m ≡ true) (nat_le row (rows w.tables 0x06)) _ _
      (λ e. let first = leb-false row (loose w.tables 5 0x06) owned in
      lt-ltb (w.first_method + (row - 1)) c.methods (omega (arith, first, leb-true row (rows w.tables 0x06) e, ok.own)))
      (λ _. refl))

  ref_member_fits : (row : ℕ) → member_fits c (ref_member w row) ≡ true
  ref_member_fits row =
      choose (λ m. member_fits c m ≡ true) (nat_le 1 row && nat_le row (rows w.tables 0x0A)) _ _ (λ _. member_ref_fits row) (λ _. refl)

  named_member_fits : (r : Option RowOf) → member_fits c (named_member w r) ≡ true
  unfolding named_member
  named_member_fits None = refl
  named_member_fits (Some r) =
      choose (λ m. member_fits c m ≡ true) (r.table == 0x06) _ _ (λ _. def_member_fits r.row) (λ _. ref_member_fits r.row)

  pub owner_type_fits : (def : ℕ) → fits c (owner_type w.types def) ≡ true
  owner_type_fits def = def_type_fits c w.types ok.types [] false def refl

  named_owner_fits : (r : Option RowOf) → fits c (named_owner w r) ≡ true
  unfolding named_owner
  named_owner_fits None = nothing_fits c w.types ok.types false
  named_owner_fits (Some r) =
      choose (λ t. fits c t ≡ true) (r.table == 0x06) _ _
      (λ _. choose (λ t. fits c t ≡ true) (nat_le 1 r.row && nat_le r.row (rows w.tables 0x06)) _ _
      (λ _. owner_type_fits (owner_of w.tables 5 0x06 r.row)) (λ _. nothing_fits c w.types ok.types false))
      (λ _. choose (λ t. fits c t ≡ true) (nat_le 1 r.row && nat_le r.row (rows w.tables 0x0A)) _ _ (λ _. ref_owner_fits r.row)
      (λ _. nothing_fits c w.types ok.types false))

  -- the method that a member is
  method_only_fits : (m : Member) → member_fits c m ≡ true → method_is_below c (method_only m) ≡ true
  method_only_fits member.NoMember e = refl
  method_only_fits (member.Field f) e = refl
  method_only_fits (member.Method m) e = e
  method_only_fits member.Lost e = refl

  -- ---- MethodSpec

  spec_method_fits : (row : ℕ) → method_is_below c (spec_method w row) ≡ true
  unfolding spec_method
  spec_method_fits row = method_only_fits (named_member w (spec_row w.tables row)) (named_member_fits (spec_row w.tables row))

  method_member_fits : (o : Option MethId) → method_is_below c o ≡ true → member_fits c (method_member o) ≡ true
  method_member_fits None e = refl
  method_member_fits (Some m) e = e

  pub method_spec_fits : (row : ℕ) → member_fits c (method_spec w row) ≡ true
  unfolding method_spec
  method_spec_fits row = method_member_fits (spec_method w row) (spec_method_fits row)

  key_at_fits : (owner : Ty) (args : List Ty) (o : Option MethId) → fits c owner ≡ true → all_fit c args ≡ true → method_is_below c o ≡ true
      → key_fits c (spec_key_at owner args o) ≡ true
  key_at_fits owner args None one all e = one
  key_at_fits owner args (Some m) one all e = both _ _ (both _ _ e one) all

  pub spec_key_fits : (row : ℕ) → key_fits c (spec_key w row) ≡ true
  unfolding spec_key spec_args
  spec_key_fits row =
      key_at_fits (named_owner w (spec_row w.tables row)) (spec_args w row) (spec_method w row) (named_owner_fits (spec_row w.tables row))
      (trees_fit c w.types ok.types _) (spec_method_fits row)

  -- ---- MethodImpl

  impl_fit : (row : ℕ) → impl_fits c (impl_of w row) ≡ true
  unfolding impl_of
  impl_fit row =
      both _ _
      (both _ _ (method_only_fits (named_member w (impl_member w row 1)) (named_member_fits (impl_member w row 1))) (named_owner_fits (impl_member w row 2)))
      (method_only_fits (named_member w (impl_member w row 2)) (named_member_fits (impl_member w row 2)))

  pub impls_of_fit : (row : ℕ) → impls_fit c (impls_of w row) ≡ true
  unfolding impls_of
  impls_of_fit row = all_of_map (impl_fits c) (impl_of w) (rows_with w.tables 0x19 0 row) impl_fit

-- The numbers in methods, fields and the rows that name them are below the counts of a world.
use Rattle.std.proofs.Common.{◌≡◌, ℕ, ◌+◌, ◌-◌, ◌<◌, Bool, true, false, List, length, Option, None, Some, refl, subst, arith, slice_get}
use Rattle.std.specs.Prelude.{◌&&◌, nat_lt, nat_le}
use Rattle.std.specs.List.{find, range_with_len, list_all}
use Rattle.std.specs.Option.{option_map, option_map_or, option_and_then}
use Rattle.std.proofs.lemmas.Bool.{and_parts, lt-ltb, leb-true}
use Rattle.clr_base.specs.declared.ids.FieldId.{FieldId}
use Rattle.clr_base.specs.declared.ids.MethId.{MethId}
use Rattle.clr_base.specs.declared.ids.NameId.{NameId}
use Rattle.cli_tables.specs.Metadata.{Metadata}
use Rattle.type_tree.specs.declared.counts.Counts.{Counts}
use Rattle.type_tree.specs.declared.tree.Ty.{Ty}
use Rattle.type_tree.specs.Fits.{formal_fits, formals_fit, method_fits, field_fits}
use Rattle.type_names.specs.declared.file_names.FileNames.{FileNames}
use Rattle.type_members.specs.declared.member_table.MemberTable.{MemberTable}
use Rattle.type_members.specs.declared.member_table.Run.{Run}
use Rattle.type_names.specs.declared.type_rows.TypeRows.{TypeRows}
use Rattle.image_rows.specs.Cells.{rows_of, at, owner_of, rows_with}
use Rattle.type_members.specs.MemberTable.{Open, is_method, own_method, is_field, own_field}
use Rattle.type_members.specs.Members.{formal_of, formals_of, method_sig, field_sig, method_owner, owner_id, method_of, field_of, file_methods, file_fields}
use Rattle.type_members.specs.Trees.{empty_name, coded_type}
use Rattle.clr_base.proofs.ListFacts.{choose, found_passes, all_of_map, all_at_or, there_is, both}
use Rattle.type_members.proofs.TreesFit.{RowsFit, tree_fits, trees_fit, type_at_row_fits, types_fit}

abbrev pub name_fits : Counts → NameId → Bool
name_fits c name = nat_lt name.0 c.names

-- what the rows of a file are called is there
pub record NamesFit (c : Counts) (n : FileNames) : Type 0 where
  pub types : RowsFit c n.types
  pub defs : list_all (name_fits c) n.defs ≡ true
  pub fields : list_all (name_fits c) n.fields ≡ true
  pub methods : list_all (name_fits c) n.methods ≡ true

module _ (c : Counts) where
  -- ---- generic parameters

  pub formals_of_fit : (s : TypeRows) (m : Metadata) (owner : ℕ) → RowsFit c s → formals_fit c (formals_of s m owner) ≡ true
  unfolding formals_of
  formals_of_fit s m owner ok =
      all_of_map (formal_fits c) (formal_of s m) (rows_with m 0x2A 2 owner)
      (λ g. types_fit c s ok (λ k. coded_type s m (at m 0x2C k 1)) (rows_with m 0x2C 0 g) (λ k. type_at_row_fits c s ok m _))

  -- ---- methods and fields

  owner_fits : (s : TypeRows) (def : ℕ) → RowsFit c s → nat_lt (owner_id s def).0 c.defs ≡ true
  owner_fits s def ok =
      choose (λ (d : ℕ). nat_lt d c.defs ≡ true) (nat_le 1 def && nat_le def s.defs) _ _
      (λ e. let parts = and_parts (nat_le 1 def) (nat_le def s.defs) e in
      lt-ltb (s.first_def + (def - 1)) c.defs (omega (arith, ok.defs, leb-true 1 def parts.0, leb-true def s.defs parts.1)))
      (λ _. lt-ltb 0 c.defs (omega (arith, ok.core)))

  pub method_of_fits : (n : FileNames) (m : Metadata) (def row : ℕ) → NamesFit c n → method_fits c (method_of n m def row) ≡ true
  unfolding method_of
  method_of_fits n m def row ok =
      both _ _
      (both _ _
      (both _ _
      (both _ _ (all_at_or (name_fits c) n.methods (row - 1) empty_name ok.methods (lt-ltb 52 c.names ok.types.empty)) (owner_fits n.types def ok.types))
      (formals_of_fit n.types m (method_owner row) ok.types))
      (tree_fits c n.types ok.types (method_sig m row).ret))
      (trees_fit c n.types ok.types (method_sig m row).params)

  pub field_of_fits : (n : FileNames) (m : Metadata) (def row : ℕ) → NamesFit c n → field_fits c (field_of n m def row) ≡ true
  unfolding field_of
  field_of_fits n m def row ok =
      both _ _
      (both _ _ (all_at_or (name_fits c) n.fields (row - 1) empty_name ok.fields (lt-ltb 52 c.names ok.types.empty)) (owner_fits n.types def ok.types))
      (tree_fits c n.types ok.types (field_sig m row))

  -- those of a file
  pub file_methods_fit : (n : FileNames) (m : Metadata) → NamesFit c n → list_all (method_fits c) (file_methods n m) ≡ true
  unfolding file_methods
  file_methods_fit n m ok =
      all_of_map (method_fits c) (λ row. method_of n m (owner_of m 5 0x06 row) row) (rows_of m 0x06)
      (λ row. method_of_fits n m (owner_of m 5 0x06 row) row ok)

  pub file_fields_fit : (n : FileNames) (m : Metadata) → NamesFit c n → list_all (field_fits c) (file_fields n m) ≡ true
  unfolding file_fields
  file_fields_fit n m ok =
      all_of_map (field_fits c) (λ row. field_of n m (owner_of m 4 0x04 row) row) (rows_of m 0x04)
      (λ row. field_of_fits n m (owner_of m 4 0x04 row) row ok)

-- ---- members by name and signature

there_by : {X : Type 0} (p : X → Bool) (xs : List X) (i : ℕ) (o : Option X) → slice_get xs i ≡ o → option_map_or p o false ≡ true → i < length xs
there_by p xs i None e h = absurd cc
there_by p xs i (Some x) e h = there_is xs i x e

module _ (w : MemberTable) where
  found_method_within : (name : NameId) (wanted : Open) (a n i : ℕ) → find (is_method w name wanted) (range_with_len a n) ≡ Some i → i < length w.methods
  found_method_within name wanted a n i e = there_by _ w.methods i (slice_get w.methods i) refl (found_passes (is_method w name wanted) (range_with_len a n) i e)

  found_field_within : (name : NameId) (t : Ty) (a n i : ℕ) → find (is_field w name t) (range_with_len a n) ≡ Some i → i < length w.fields
  found_field_within name t a n i e = there_by _ w.fields i (slice_get w.fields i) refl (found_passes (is_field w name t) (range_with_len a n) i e)

  method_in : (name : NameId) (wanted : Open) (a n : ℕ) (o : Option ℕ) → find (is_method w name wanted) (range_with_len a n) ≡ o → (m : MethId)
      → option_map (λ (i : ℕ). let id : MethId = record { 0 = i } in id) o ≡ Some m → m.0 < length w.methods
  method_in name wanted a n None e m is = absurd cc
  method_in name wanted a n (Some i) e m is =
      let same : i ≡ m.0 = cc in subst (λ (k : ℕ). k < length w.methods) same (found_method_within name wanted a n i e)

  field_in : (name : NameId) (t : Ty) (a n : ℕ) (o : Option ℕ) → find (is_field w name t) (range_with_len a n) ≡ o → (f : FieldId)
      → option_map (λ (i : ℕ). let id : FieldId = record { 0 = i } in id) o ≡ Some f → f.0 < length w.fields
  field_in name t a n None e f is = absurd cc
  field_in name t a n (Some i) e f is =
      let same : i ≡ f.0 = cc in subst (λ (k : ℕ). k < length w.fields) same (found_field_within name t a n i e)

  own_method_by : (name : NameId) (wanted : Open) (r : Option Run) (m : MethId)
      → option_and_then (λ r. option_map (λ i. record { 0 = i }) (find (is_method w name wanted) (range_with_len r.first_method r.methods))) r ≡ Some m
      → m.0 < length w.methods
  own_method_by name wanted None m e = absurd cc
  own_method_by name wanted (Some r) m e = method_in name wanted r.first_method r.methods _ refl m e

  pub own_method_within : (d : ℕ) (name : NameId) (wanted : Open) (m : MethId) → own_method w d name wanted ≡ Some m → m.0 < length w.methods
  unfolding own_method
  own_method_within d name wanted m e = own_method_by name wanted (slice_get w.runs d) m e

  own_field_by : (name : NameId) (t : Ty) (r : Option Run) (f : FieldId)
      → option_and_then (λ r. option_map (λ i. record { 0 = i }) (find (is_field w name t) (range_with_len r.first_field r.fields))) r ≡ Some f
      → f.0 < length w.fields
  own_field_by name t None f e = absurd cc
  own_field_by name t (Some r) f e = field_in name t r.first_field r.fields _ refl f e

  pub own_field_within : (d : ℕ) (name : NameId) (t : Ty) (f : FieldId) → own_field w d name t ≡ Some f → f.0 < length w.fields
  unfolding own_field
  own_field_within d name t f e = own_field_by name t (slice_get w.runs d) f e

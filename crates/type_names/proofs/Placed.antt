-- What a reference names is a type of the core or a row that there is.
use Rattle.std.proofs.Common.{◌≡◌, ℕ, zero, suc, ◌+◌, ◌<◌, ◌≤◌, Bool, true, false, cond, List, Option, Some, None, refl, ap, arith}
use Rattle.std.specs.Prelude.{◌==◌, nat_le, slice_get}
use Rattle.std.specs.List.{find, range_with_len, list_any}
use Rattle.std.specs.Option.{IfSome, option_map, option_and_then}
use Rattle.std.specs.Str.{bytes_eq}
use Rattle.std.proofs.lemmas.Option.{slice_get_within, get_or_from_slice_get}
use Rattle.cli_tables.specs.Metadata.{Metadata}
use Rattle.image_rows.specs.declared.cells.RowOf.{RowOf}
use Rattle.type_names.specs.declared.resolution.DefPlace.{DefPlace}
use Rattle.type_names.specs.declared.resolution.DefPlace.TheVariants.{InCore, InFile}
use Rattle.image_rows.specs.Cells.{rows}
use Rattle.type_names.specs.Numbering.{IsPlaced}
use Rattle.type_names.specs.Resolution.{assembly_text, core_assemblies, core_type, def_row, file_named, in_assembly, in_scope, is_def, nested_in, resolved, resolved_within, top_in}
use Rattle.image_rows.specs.TypeNames.{ref_name, ref_namespace, scope, most_scopes}
use Rattle.type_names.proofs.Firsts.{first_more}

-- ---- what is found in a range

found_here : (b : Bool) (a n r : ℕ) (o : Option ℕ) → ((r : ℕ) → o ≡ Some r → (a + 1 ≤ r) × (r < a + 1 + n)) → cond b (Some a) o ≡ Some r
    → (a ≤ r) × (r < a + suc n)
found_here true a n r o rest e = let is : a ≡ r = cc in (omega arith, omega arith)
found_here false a n r o rest e = let parts = rest r e in (omega (arith, parts.0), omega (arith, parts.1))

found_in : (p : ℕ → Bool) (a n r : ℕ) → find p (range_with_len a n) ≡ Some r → (a ≤ r) × (r < a + n)
found_in p a zero r e = absurd cc
found_in p a (suc n) r e = found_here (p a) a n r (find p (range_with_len (a + 1) n)) (found_in p (a + 1) n) e

-- ---- options

either : {B : Type 0} (P : B → Type 0) (b : Bool) (x y : Option B) → IfSome x P → IfSome y P → IfSome (cond b x y) P
either P true x y first second = first
either P false x y first second = second

module _ {A B : Type 0} (P : B → Type 0) where
  then_some : (f : A → Option B) (o : Option A) → ((x : A) → o ≡ Some x → IfSome (f x) P) → IfSome (option_and_then f o) P
  then_some f None each = tt
  then_some f (Some x) each = each x refl

  map_some : (f : A → B) (o : Option A) → ((x : A) → o ≡ Some x → P (f x)) → IfSome (option_map f o) P
  map_some f None each = tt
  map_some f (Some x) each = each x refl

-- ---- places

module _ (files : List Metadata) where
  row_placed : (k : ℕ) (m : Metadata) (around : ℕ) (namespace name : List ℕ) → slice_get files k ≡ Some m
      → IfSome (option_map (InFile k) (def_row m around namespace name)) (IsPlaced files)
  unfolding def_row
  row_placed k m around namespace name there =
      map_some (IsPlaced files) (InFile k) (def_row m around namespace name)
      (λ row e.
      let parts = found_in (is_def m around namespace name) 1 (rows m 0x02) row e in
      let inside = slice_get_within files k m there in
      let one = first_more files k m inside in
      let this = ap (λ (x : Metadata). rows x 0x02) (get_or_from_slice_get files k m m there) in
      (parts.0, inside, omega (arith, parts.1, one, this)))

  top_placed : (k : ℕ) (namespace name : List ℕ) → IfSome (top_in files k namespace name) (IsPlaced files)
  top_placed k namespace name =
      then_some (IsPlaced files) (λ m. option_map (InFile k) (def_row m 0 namespace name)) (slice_get files k)
      (λ m there. row_placed k m 0 namespace name there)

  nested_placed : (place : DefPlace) (namespace name : List ℕ) → IfSome (nested_in files place namespace name) (IsPlaced files)
  nested_placed (InCore k) namespace name = tt
  nested_placed (InFile k row) namespace name =
      then_some (IsPlaced files) (λ m. option_map (InFile k) (def_row m row namespace name)) (slice_get files k)
      (λ m there. row_placed k m row namespace name there)

  assembly_placed : (assembly namespace name : List ℕ) → IfSome (in_assembly files assembly namespace name) (IsPlaced files)
  assembly_placed assembly namespace name =
      either (IsPlaced files) (list_any (bytes_eq assembly) core_assemblies) (option_map InCore (core_type namespace name))
      (option_and_then (λ k. top_in files k namespace name) (file_named files assembly))
      (map_some (IsPlaced files) InCore (core_type namespace name) (λ k e. tt))
      (then_some (IsPlaced files) (λ k. top_in files k namespace name) (file_named files assembly) (λ k e. top_placed k namespace name))

  scope_placed : (k : ℕ) (m : Metadata) (place_of : ℕ → Option DefPlace) (namespace name : List ℕ) (s : Option RowOf)
      → IfSome (in_scope files k m place_of namespace name s) (IsPlaced files)
  scope_placed k m place_of namespace name None = tt
  scope_placed k m place_of namespace name (Some s) =
      either (IsPlaced files) (s.table == 0x00) _ _ (top_placed k namespace name)
      (either (IsPlaced files) (s.table == 0x23) _ _ (assembly_placed (assembly_text m s.row) namespace name)
      (either (IsPlaced files) (s.table == 0x01) _ _
      (then_some (IsPlaced files) (λ p. nested_in files p namespace name) (place_of s.row) (λ p e. nested_placed p namespace name)) tt))

  within_placed : (n k : ℕ) (m : Metadata) (row : ℕ) → IfSome (resolved_within n files k m row) (IsPlaced files)
  unfolding resolved_within
  within_placed zero k m row = tt
  within_placed (suc n) k m row =
      either (IsPlaced files) (nat_le row (rows m 0x01)) _ _
      (scope_placed k m (resolved_within n files k m) (ref_namespace m row) (ref_name m row) (scope m row)) tt

  pub resolved_placed : (k : ℕ) (m : Metadata) (row : ℕ) → IfSome (resolved files k m row) (IsPlaced files)
  unfolding resolved
  resolved_placed k m row = within_placed most_scopes k m row

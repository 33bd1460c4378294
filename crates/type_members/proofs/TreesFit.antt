-- The numbers in the trees of a file's types are below the counts of a world, where what its rows name is.
use Rattle.std.proofs.Common.{◌≡◌, ℕ, ◌+◌, ◌-◌, ◌<◌, ◌≤◌, Bool, true, false, List, [], ◌∷◌, map, Option, None, Some, refl, ap, ◌∙◌, arith, slice_get}
use Rattle.std.specs.Prelude.{◌&&◌, ◌==◌, nat_lt, nat_le}
use Rattle.std.specs.List.{list_all}
use Rattle.std.proofs.lemmas.Bool.{and_parts, lt-ltb, ltb-true, leb-true}
use Rattle.clr_base.specs.declared.ids.DefId.{DefId}
use Rattle.cli_sigs.specs.declared.signature.SigTy.{SigTy}
use Rattle.cli_sigs.specs.declared.signature.SigTy.TheFolds.{fold-SigTy}
use Rattle.cli_tables.specs.Metadata.{Metadata}
use Rattle.cli_tables.specs.declared.schema.CodedIndex.TheVariants.{TypeDefOrRef}
use Rattle.type_tree.specs.declared.counts.Counts.{Counts}
use Rattle.type_tree.specs.declared.tree.Ty.{Ty}
use Rattle.type_tree.specs.declared.tree.Ty.TheVariants as ty
use Rattle.type_tree.specs.Fits.{fits, fits_step, all_fit}
use Rattle.type_tree.proofs.Folds as tree-fold
use Rattle.type_tree.proofs.WholeLemmas.{element_passes}
use Rattle.image_rows.specs.declared.cells.RowOf.{RowOf}
use Rattle.core_types.specs.declared.core_type.CoreType.{CoreType}
use Rattle.core_types.specs.declared.core_type.CoreType.TheVariants as known
use Rattle.type_names.specs.declared.type_rows.Target.{Target}
use Rattle.type_names.specs.declared.type_rows.Target.TheVariants as target
use Rattle.type_names.specs.declared.type_rows.TypeRows.{TypeRows}
use Rattle.image_rows.specs.Cells.{rows, coded}
use Rattle.core_types.specs.CoreLibrary.{plain}
use Rattle.core_types.specs.CoreTable.{number_of}
use Rattle.type_members.specs.Trees.{built_in, nothing, target_type, def_type, row_type, tree_step, tree, trees, spec_type, spec_sig, type_at_row}
use Rattle.clr_base.proofs.ListFacts.{choose}
use Rattle.type_members.proofs.SigFolds.{Known, types, by_variants, fold-BuiltIn, fold-Inst, fold-Array, fold-ByRef, fold-Ptr, fold-Var, fold-MVar, fold-Odd}

-- ---- each variant fits where its parts do

module _ (c : Counts) where
  pub inst_fits : (d : DefId) (ts : List Ty) → d.0 < c.defs → all_fit c ts ≡ true → fits c (ty.Inst d ts) ≡ true
  inst_fits d ts small all = tree-fold.fold-Inst Bool (fits_step c) d ts ∙ ap (λ (b : Bool). b && all_fit c ts) (lt-ltb d.0 c.defs small) ∙ all

  pub array_fits : (t : Ty) → fits c t ≡ true → fits c (ty.Array t) ≡ true
  array_fits t e = tree-fold.fold-Array Bool (fits_step c) t ∙ e

  by_ref_fits : (t : Ty) → fits c t ≡ true → fits c (ty.ByRef t) ≡ true
  by_ref_fits t e = tree-fold.fold-ByRef Bool (fits_step c) t ∙ e

  ptr_fits : (t : Ty) → fits c t ≡ true → fits c (ty.Ptr t) ≡ true
  ptr_fits t e = tree-fold.fold-Ptr Bool (fits_step c) t ∙ e

-- ---- the types of the core

pub number_small : (t : CoreType) → number_of t < 36
number_small known.Object = omega arith
number_small known.ValueType = omega arith
number_small known.Enum = omega arith
number_small known.Void = omega arith
number_small known.Boolean = omega arith
number_small known.Char = omega arith
number_small known.SByte = omega arith
number_small known.Byte = omega arith
number_small known.Int16 = omega arith
number_small known.UInt16 = omega arith
number_small known.Int32 = omega arith
number_small known.UInt32 = omega arith
number_small known.Int64 = omega arith
number_small known.UInt64 = omega arith
number_small known.IntPtr = omega arith
number_small known.UIntPtr = omega arith
number_small known.Single = omega arith
number_small known.Double = omega arith
number_small known.String = omega arith
number_small known.Array = omega arith
number_small known.TypeObject = omega arith
number_small known.RuntimeTypeHandle = omega arith
number_small known.Canon = omega arith
number_small known.IComparable = omega arith
number_small known.IEquatable = omega arith
number_small known.IComparer = omega arith
number_small known.IDisposable = omega arith
number_small known.Attribute = omega arith
number_small known.Exception = omega arith
number_small known.SystemException = omega arith
number_small known.ArgumentException = omega arith
number_small known.InvalidOperationException = omega arith
number_small known.Delegate = omega arith
number_small known.MulticastDelegate = omega arith
number_small known.Nullable = omega arith
number_small known.Console = omega arith

-- ---- what the rows of a file name

abbrev pub target_fits : Counts → Target → Bool
target_fits c (target.Def d) = nat_lt d.0 c.defs
target_fits c (target.Missing name) = nat_lt name.0 c.names

pub record RowsFit (c : Counts) (s : TypeRows) : Type 0 where
  pub empty : 52 < c.names
  pub core : 36 ≤ c.defs
  pub defs : s.first_def + s.defs ≤ c.defs
  pub refs : list_all (target_fits c) s.refs ≡ true

module _ (c : Counts) (s : TypeRows) (ok : RowsFit c s) where
  pub plain_fits : (t : CoreType) → fits c (plain t) ≡ true
  plain_fits t = let small : number_of t < c.defs = omega (arith, number_small t, ok.core) in inst_fits c (record { 0 = number_of t }) [] small refl

  pub nothing_fits : (value : Bool) → fits c (nothing value) ≡ true
  nothing_fits value = tree-fold.fold-Missing Bool (fits_step c) (record { 0 = 52 }) value ∙ lt-ltb 52 c.names ok.empty

  found_fits : (args : List Ty) (value : Bool) (t : Target) → all_fit c args ≡ true → target_fits c t ≡ true → fits c (target_type args value (Some t)) ≡ true
  found_fits args value (target.Def d) all e = inst_fits c d args (ltb-true d.0 c.defs e) all
  found_fits args value (target.Missing name) all e = tree-fold.fold-Missing Bool (fits_step c) name value ∙ e

  target_type_fits : (args : List Ty) (value : Bool) (o : Option Target) (i : ℕ) → all_fit c args ≡ true → slice_get s.refs i ≡ o → fits c (target_type args value o) ≡ true
  target_type_fits args value None i all e = nothing_fits value
  target_type_fits args value (Some t) i all e = found_fits args value t all (element_passes (target_fits c) s.refs i t ok.refs e)

  pub def_type_fits : (args : List Ty) (value : Bool) (row : ℕ) → all_fit c args ≡ true → fits c (def_type s args value row) ≡ true
  def_type_fits args value row all =
      choose (λ t. fits c t ≡ true) (nat_le 1 row && nat_le row s.defs) _ _
      (λ e. let parts = and_parts (nat_le 1 row) (nat_le row s.defs) e in
      let first = leb-true 1 row parts.0 in
      let last = leb-true row s.defs parts.1 in
      let small : s.first_def + (row - 1) < c.defs = omega (arith, first, last, ok.defs) in
      inst_fits c (record { 0 = s.first_def + (row - 1) }) args small all)
      (λ _. nothing_fits value)

  pub row_type_fits : (args : List Ty) (value : Bool) (r : Option RowOf) → all_fit c args ≡ true → fits c (row_type s args value r) ≡ true
  row_type_fits args value None all = nothing_fits value
  row_type_fits args value (Some r) all =
      choose (λ t. fits c t ≡ true) (r.table == 0x02) _ _ (λ _. def_type_fits args value r.row all)
      (λ _. choose (λ t. fits c t ≡ true) (r.table == 0x01) _ _
      (λ _. target_type_fits args value (slice_get s.refs (r.row - 1)) (r.row - 1) all refl) (λ _. nothing_fits value))

  -- ---- signatures

  abbrev pub TreeFits : SigTy → Type 0
  TreeFits t = fits c (tree s t) ≡ true

  all_known : (ps : List (Known TreeFits)) → all_fit c (map (fold-SigTy Ty (tree_step s)) (types TreeFits ps)) ≡ true
  unfolding tree
  all_known [] = refl
  all_known (e ∷ ps) = ap (λ (b : Bool). b && all_fit c (map (fold-SigTy Ty (tree_step s)) (types TreeFits ps))) e.1 ∙ all_known ps

  pub tree_fits : (t : SigTy) → fits c (tree s t) ≡ true
  unfolding tree
  tree_fits = by_variants TreeFits (record {
    built_in = λ code. ap (fits c) (fold-BuiltIn Ty (tree_step s) code) ∙ plain_fits (built_in code);
    inst = λ i v ps. ap (fits c) (fold-Inst Ty (tree_step s) i v (types TreeFits ps))
        ∙ row_type_fits (map (fold-SigTy Ty (tree_step s)) (types TreeFits ps)) v (coded TypeDefOrRef i) (all_known ps);
    array = λ t e. ap (fits c) (fold-Array Ty (tree_step s) t) ∙ array_fits c (fold-SigTy Ty (tree_step s) t) e;
    by_ref = λ t e. ap (fits c) (fold-ByRef Ty (tree_step s) t) ∙ by_ref_fits c (fold-SigTy Ty (tree_step s) t) e;
    ptr = λ t e. ap (fits c) (fold-Ptr Ty (tree_step s) t) ∙ ptr_fits c (fold-SigTy Ty (tree_step s) t) e;
    var = λ n. ap (fits c) (fold-Var Ty (tree_step s) n) ∙ tree-fold.fold-Var Bool (fits_step c) n;
    mvar = λ n. ap (fits c) (fold-MVar Ty (tree_step s) n) ∙ tree-fold.fold-MVar Bool (fits_step c) n;
    odd = λ code. ap (fits c) (fold-Odd Ty (tree_step s) code) ∙ tree-fold.fold-Odd Bool (fits_step c) code;
  })

  pub trees_fit : (ts : List SigTy) → all_fit c (trees s ts) ≡ true
  unfolding trees
  trees_fit [] = refl
  trees_fit (t ∷ ts) = ap (λ (b : Bool). b && all_fit c (trees s ts)) (tree_fits t) ∙ trees_fit ts

  -- ---- rows that are types

  spec_type_fits : (m : Metadata) (row : ℕ) → fits c (spec_type s m row) ≡ true
  spec_type_fits m row = choose (λ t. fits c t ≡ true) (nat_le 1 row && nat_le row (rows m 0x1B)) _ _ (λ _. tree_fits (spec_sig m row)) (λ _. nothing_fits false)

  pub type_at_row_fits : (m : Metadata) (r : Option RowOf) → fits c (type_at_row s m r) ≡ true
  unfolding type_at_row
  type_at_row_fits m None = nothing_fits false
  type_at_row_fits m (Some r) =
      choose (λ t. fits c t ≡ true) (r.table == 0x1B) _ _ (λ _. spec_type_fits m r.row) (λ _. row_type_fits [] false (Some r) refl)

  -- whatever rows give types
  pub types_fit : (give : ℕ → Ty) (rows : List ℕ) → ((row : ℕ) → fits c (give row) ≡ true) → all_fit c (map give rows) ≡ true
  types_fit give [] each = refl
  types_fit give (row ∷ rest) each = ap (λ (b : Bool). b && all_fit c (map give rest)) (each row) ∙ types_fit give rest each

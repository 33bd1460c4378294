-- The numbers in the core library are below the counts of a world that has it.
use Rattle.std.proofs.Common.{◌≡◌, ℕ, zero, suc, ◌+◌, ◌<◌, ◌≤◌, Bool, true, false, [], ◌∷◌, length, Option, None, Some, refl, sym, ap, subst, arith}
use Rattle.std.specs.Prelude.{nat_lt, nat_le}
use Rattle.std.specs.List.{list_all, flat_map, range_with_len}
use Rattle.std.proofs.lemmas.Bool.{lt-ltb, le-leb, leb-true}
use Rattle.std.proofs.lemmas.List.FromFn.{length-map-range_with_len}
use Rattle.clr_base.specs.declared.ids.DefId.{DefId}
use Rattle.type_tree.specs.declared.counts.Counts.{Counts}
use Rattle.type_tree.specs.Fits.{fits, fits_step, all_fit, parent_fits, formals_fit, is_within, def_fits, method_fits}
use Rattle.type_tree.specs.Whole.{keys_fit}
use Rattle.type_tree.proofs.Folds as tree-fold
use Rattle.core_types.specs.declared.core_table.CoreMethod.{CoreMethod}
use Rattle.core_types.specs.declared.core_table.FormalKind.{FormalKind}
use Rattle.core_types.specs.declared.core_table.Params.{Params}
use Rattle.core_types.specs.declared.core_table.Params.TheVariants.{Zero, One, Two, Three}
use Rattle.core_types.specs.declared.core_table.SigType.{SigType}
use Rattle.core_types.specs.declared.core_table.SigType.TheVariants.{Core, Parameter}
use Rattle.core_types.specs.declared.core_type.CoreType.{CoreType}
use Rattle.core_types.specs.declared.core_type.CoreType.TheVariants.{IComparable, IEquatable, String, TypeObject}
use Rattle.core_types.specs.CoreLibrary.{plain, itself, with_argument, tree_of, trees_of, formals_of, parent_of, interfaces_of, methods_before, def_of, method_of, methods_of, defs, methods, name_id}
use Rattle.core_types.specs.CoreTable.{core_defs, core_methods, def_id, def_text, member_text, row, method_rows}
use Rattle.world_build.specs.Signatures.{well_known}
use Rattle.core_types.proofs.CoreNames.{def_named, member_named, member_small}
use Rattle.clr_base.proofs.ListFacts.{all_of_map, all_of_range, all_of_both, both}
use Rattle.clr_base.proofs.Ranges.{below}
use Rattle.type_members.proofs.TreesFit.{number_small, inst_fits, array_fits}

-- ---- how many there are

pub count_of_defs : length defs ≡ core_defs
unfolding defs
count_of_defs = length-map-range_with_len def_of 0 36

pub count_of_methods : length methods ≡ core_methods
unfolding methods method_rows
count_of_methods = refl

runs_end : (k : ℕ) → k < 36 → nat_le (methods_before k + length (method_rows k)) core_methods ≡ true
unfolding methods_before method_rows
runs_end k few = below (λ j. nat_le (methods_before j + length (method_rows j)) core_methods) 36 k refl few

-- ---- what they hold

module _ (c : Counts) (names : 52 < c.names) (many : core_defs ≤ c.defs) (more : core_methods ≤ c.methods) where
  core_fits : (t : CoreType) → fits c (plain t) ≡ true
  core_fits t = inst_fits c (def_id t) [] (omega (arith, number_small t, many)) refl

  tree_fits : (t : SigType) → fits c (tree_of t) ≡ true
  tree_fits (Core t) = core_fits t
  tree_fits Parameter = tree-fold.fold-Var Bool (fits_step c) 0

  trees_fit : (p : Params) → all_fit c (trees_of p) ≡ true
  trees_fit Zero = refl
  trees_fit (One a) = both _ _ (tree_fits a) refl
  trees_fit (Two a b) = both _ _ (tree_fits a) (both _ _ (tree_fits b) refl)
  trees_fit (Three a b d) = both _ _ (tree_fits a) (both _ _ (tree_fits b) (both _ _ (tree_fits d) refl))

  formals_fit_of : (f : Option FormalKind) → formals_fit c (formals_of f) ≡ true
  formals_fit_of None = refl
  formals_fit_of (Some f) = refl

  parent_fits_of : (t : Option CoreType) → parent_fits c (parent_of t) ≡ true
  parent_fits_of None = refl
  parent_fits_of (Some t) = core_fits t

  of_itself : (t : CoreType) (d : DefId) → d.0 < c.defs → fits c (with_argument t (itself d)) ≡ true
  of_itself t d small = inst_fits c (def_id t) (itself d ∷ []) (omega (arith, number_small t, many)) (both _ _ (inst_fits c d [] small refl) refl)

  interfaces_fit : (b : Bool) (d : DefId) → d.0 < c.defs → all_fit c (interfaces_of b d) ≡ true
  interfaces_fit false d small = refl
  interfaces_fit true d small = both _ _ (of_itself IComparable d small) (both _ _ (of_itself IEquatable d small) refl)

  def_of_fits : (k : ℕ) → k < 36 → def_fits c (def_of k) ≡ true
  unfolding def_of
  def_of_fits k few =
      let named : nat_lt (name_id (def_text k)).0 c.names ≡ true = subst (λ (n : ℕ). nat_lt n c.names ≡ true) (sym (ap (λ id. id.0) (def_named k few))) (lt-ltb k c.names (omega (arith, names, few))) in
      let run : is_within (methods_before k) (length (method_rows k)) c.methods ≡ true = le-leb _ _ (omega (arith, leb-true _ _ (runs_end k few), more)) in
      both _ _
      (both _ _
      (both _ _
      (both _ _ (both _ _ (both _ _ named (le-leb 0 c.files (omega arith))) (both _ _ (le-leb 0 c.fields (omega arith)) run)) (parent_fits_of (row k).parent))
      (formals_fit_of (row k).formal))
      (interfaces_fit (row k).is_comparable (record { 0 = k }) (omega (arith, few, many))))
      refl

  pub defs_fit_all : list_all (def_fits c) defs ≡ true
  unfolding defs
  defs_fit_all = all_of_range (def_fits c) def_of 0 36 (λ k first last. def_of_fits k (omega (arith, last)))

  method_of_fits : (k : ℕ) (m : CoreMethod) → k < 36 → method_fits c (method_of k m) ≡ true
  unfolding method_of
  method_of_fits k m few =
      let named : nat_lt (name_id (member_text m.name)).0 c.names ≡ true = subst (λ (n : ℕ). nat_lt n c.names ≡ true) (sym (ap (λ id. id.0) (member_named m.name))) (lt-ltb _ c.names (omega (arith, names, member_small m.name))) in
      both _ _ (both _ _ (both _ _ (both _ _ named (lt-ltb k c.defs (omega (arith, few, many)))) refl) (core_fits m.ret)) (trees_fit m.params)

  methods_from : (a n : ℕ) → a + n ≤ 36 → list_all (method_fits c) (flat_map methods_of (range_with_len a n)) ≡ true
  methods_from a zero few = refl
  methods_from a (suc n) few =
      all_of_both (method_fits c) (methods_of a) (flat_map methods_of (range_with_len (a + 1) n))
      (all_of_map (method_fits c) (method_of a) (method_rows a) (λ m. method_of_fits a m (omega (arith, few)))) (methods_from (a + 1) n (omega (arith, few)))

  pub methods_fit_all : list_all (method_fits c) methods ≡ true
  unfolding methods
  methods_fit_all = methods_from 0 36 (omega arith)

  pub well_known_fit : keys_fit c well_known ≡ true
  unfolding well_known
  well_known_fit = both _ _ (core_fits String) (both _ _ (core_fits TypeObject) (both _ _ (array_fits c (plain String) (core_fits String)) refl))

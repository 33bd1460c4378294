-- A world with further roots is whole: no number is judged by how many signatures there are but those of signatures.
use Rattle.std.proofs.Common.{◌≡◌, ℕ, suc, ◌+◌, ◌<◌, ◌≤◌, Bool, true, List, [], ◌∷◌, ◌++◌, map, length, Option, Some, None, refl, sym, ap, ap₂, ◌∙◌, arith}
use Rattle.std.specs.Prelude.{◌&&◌, nat_lt, nat_le}
use Rattle.std.specs.List.{list_all}
use Rattle.std.proofs.lemmas.Bool.{and_parts, lt-ltb, ltb-true, le-leb, leb-true}
use Rattle.std.proofs.lemmas.List.{length-append, length-map}
use Rattle.clr_base.specs.declared.ids.MethId.{MethId}
use Rattle.type_tree.specs.declared.counts.Counts.{Counts}
use Rattle.type_tree.specs.declared.definition.Def.{Def}
use Rattle.type_tree.specs.declared.definition.Field.{Field}
use Rattle.type_tree.specs.declared.definition.Formal.{Formal}
use Rattle.type_tree.specs.declared.definition.Impl.{Impl}
use Rattle.type_tree.specs.declared.definition.Method.{Method}
use Rattle.type_tree.specs.declared.parts.Locals.{Locals}
use Rattle.type_tree.specs.declared.parts.Member.{Member}
use Rattle.type_tree.specs.declared.parts.Member.TheVariants as member
use Rattle.type_tree.specs.declared.parts.Root.{Root}
use Rattle.type_tree.specs.declared.parts.WorldFile.{WorldFile}
use Rattle.type_tree.specs.declared.tree.Key.{Key}
use Rattle.type_tree.specs.declared.tree.Key.TheVariants.{Tree, Meth}
use Rattle.type_tree.specs.declared.tree.Ty.{Ty}
use Rattle.type_tree.specs.World.{Facts}
use Rattle.type_tree.specs.Fits.{fits, fits_step, all_fit, key_fits, parent_fits, method_is_below, formals_fit, impl_fits, impls_fit, is_within, def_fits, method_fits, field_fits}
use Rattle.type_tree.specs.Tokens.{row_sigs}
use Rattle.type_tree.specs.Whole.{counts, most, has_few, things_fit, files_fit, root_fits, member_fits, locals_fit, file_fits, is_whole, IsWhole}
use Rattle.type_tree.proofs.Folds.{Known, trees, by_variants, fold-Inst, fold-Array, fold-ByRef, fold-Ptr, fold-Var, fold-MVar, fold-Missing, fold-Odd}
use Rattle.type_tree.proofs.WholeLemmas.{parts, things}
use Rattle.world_build.specs.declared.roots.NamedRoot.{NamedRoot}
use Rattle.world_build.specs.Roots.{root_key, roots_from, world_with}
use Rattle.clr_base.proofs.ListFacts.{both, all_of_both}

-- all items pass a test, where they pass another one that implies it
all_too : {X : Type 0} (p q : X → Bool) → ((x : X) → p x ≡ true → q x ≡ true) → (xs : List X) → list_all p xs ≡ true → list_all q xs ≡ true
all_too p q each [] all = refl
all_too p q each (x ∷ xs) all =
    let h = and_parts (p x) (list_all p xs) all in
    both _ _ (each x h.0) (all_too p q each xs h.1)

-- ---- where there are more signatures

module _ (c : Counts) (n : ℕ) where
  abbrev wider : Counts
  wider = record { names = c.names; defs = c.defs; methods = c.methods; fields = c.fields; sigs = n; files = c.files }

  abbrev Same : Ty → Type 0
  Same t = fits c t ≡ fits wider t

  all_known : (ps : List (Known Same)) → all_fit c (trees Same ps) ≡ all_fit wider (trees Same ps)
  all_known [] = refl
  all_known (e ∷ ps) = ap₂ ◌&&◌ e.1 (all_known ps)

  same_fits : (t : Ty) → fits c t ≡ fits wider t
  same_fits = by_variants Same (record {
    inst = λ d ps. fold-Inst Bool (fits_step c) d (trees Same ps) ∙ ap (λ (b : Bool). nat_lt d.0 c.defs && b) (all_known ps) ∙ sym (fold-Inst Bool (fits_step wider) d (trees Same ps));
    array = λ t e. fold-Array Bool (fits_step c) t ∙ e ∙ sym (fold-Array Bool (fits_step wider) t);
    by_ref = λ t e. fold-ByRef Bool (fits_step c) t ∙ e ∙ sym (fold-ByRef Bool (fits_step wider) t);
    ptr = λ t e. fold-Ptr Bool (fits_step c) t ∙ e ∙ sym (fold-Ptr Bool (fits_step wider) t);
    var = λ k. fold-Var Bool (fits_step c) k ∙ sym (fold-Var Bool (fits_step wider) k);
    mvar = λ k. fold-MVar Bool (fits_step c) k ∙ sym (fold-MVar Bool (fits_step wider) k);
    missing = λ name value. fold-Missing Bool (fits_step c) name value ∙ sym (fold-Missing Bool (fits_step wider) name value);
    odd = λ code. fold-Odd Bool (fits_step c) code ∙ sym (fold-Odd Bool (fits_step wider) code);
  })

  same_all : (ts : List Ty) → all_fit c ts ≡ all_fit wider ts
  same_all [] = refl
  same_all (t ∷ ts) = ap₂ ◌&&◌ (same_fits t) (same_all ts)

  same_parent : (t : Option Ty) → parent_fits c t ≡ parent_fits wider t
  same_parent None = refl
  same_parent (Some t) = same_fits t

  same_below : (m : Option MethId) → method_is_below c m ≡ method_is_below wider m
  same_below None = refl
  same_below (Some m) = refl

  same_formals : (fs : List Formal) → formals_fit c fs ≡ formals_fit wider fs
  same_formals [] = refl
  same_formals (f ∷ fs) = ap₂ ◌&&◌ (same_all f.constraints) (same_formals fs)

  same_impl : (i : Impl) → impl_fits c i ≡ impl_fits wider i
  same_impl i = ap₂ ◌&&◌ (ap₂ ◌&&◌ (same_below i.body) (same_fits i.owner)) (same_below i.declaration)

  same_impls : (is : List Impl) → impls_fit c is ≡ impls_fit wider is
  same_impls [] = refl
  same_impls (i ∷ is) = ap₂ ◌&&◌ (same_impl i) (same_impls is)

  pub def_too : (d : Def) → def_fits c d ≡ true → def_fits wider d ≡ true
  def_too d e =
      sym (ap₂ ◌&&◌
      (ap₂ ◌&&◌ (ap₂ ◌&&◌ (ap (λ (b : Bool). nat_lt d.name.0 c.names && nat_le d.file c.files && (is_within d.first_field d.fields c.fields && is_within d.first_method d.methods c.methods) && b) (same_parent d.parent)) (same_formals d.formals)) (same_all d.interfaces))
      (same_impls d.impls)) ∙ e

  pub method_too : (m : Method) → method_fits c m ≡ true → method_fits wider m ≡ true
  method_too m e =
      sym (ap₂ ◌&&◌
      (ap₂ ◌&&◌ (ap (λ (b : Bool). nat_lt m.name.0 c.names && nat_lt m.def.0 c.defs && b) (same_formals m.formals)) (same_fits m.ret))
      (same_all m.params)) ∙ e

  pub field_too : (f : Field) → field_fits c f ≡ true → field_fits wider f ≡ true
  field_too f e = sym (ap (λ (b : Bool). nat_lt f.name.0 c.names && nat_lt f.def.0 c.defs && b) (same_fits f.ty)) ∙ e

  pub key_too : (k : Key) → key_fits c k ≡ true → key_fits wider k ≡ true
  key_too (Tree t) e = sym (same_fits t) ∙ e
  key_too (Meth k) e = sym (ap₂ ◌&&◌ (ap (λ (b : Bool). nat_lt k.method.0 c.methods && b) (same_fits k.owner)) (same_all k.args)) ∙ e

  member_too : (m : Member) → member_fits c m ≡ true → member_fits wider m ≡ true
  member_too member.NoMember e = refl
  member_too (member.Field f) e = e
  member_too (member.Method m) e = e
  member_too member.Lost e = refl

  module _ (grown : c.sigs ≤ n) where
    pub root_too : (r : Root) → root_fits c r ≡ true → root_fits wider r ≡ true
    root_too r e =
        let h = and_parts (nat_lt r.sig.0 c.sigs) (method_is_below c r.method) e in
        let small : r.sig.0 < c.sigs = ltb-true r.sig.0 c.sigs h.0 in
        both _ _ (lt-ltb r.sig.0 n (omega (arith, small, grown))) (sym (same_below r.method) ∙ h.1)

    locals_too : (l : Option Locals) → locals_fit c l ≡ true → locals_fit wider l ≡ true
    locals_too None e = refl
    locals_too (Some l) e = let small : l.first.0 + l.count ≤ c.sigs = leb-true _ _ e in le-leb (l.first.0 + l.count) n (omega (arith, small, grown))

    pub file_too : (f : WorldFile) → file_fits c f ≡ true → file_fits wider f ≡ true
    file_too f h =
        let a = and_parts _ _ h in
        let b = and_parts _ _ a.0 in
        let d = and_parts _ _ b.0 in
        let e = and_parts _ _ d.0 in
        let g = and_parts _ _ e.0 in
        let sigs : f.first_sig.0 + row_sigs f ≤ c.sigs = leb-true _ _ g.0 in
        both _ _
        (both _ _
        (both _ _
        (both _ _ (both _ _ (le-leb (f.first_sig.0 + row_sigs f) n (omega (arith, sigs, grown))) g.1) e.1)
        (all_too (member_fits c) (member_fits wider) member_too f.member_refs d.1))
        (all_too (member_fits c) (member_fits wider) member_too f.method_specs b.1))
        (all_too (locals_fit c) (locals_fit wider) locals_too f.locals a.1)

-- ---- the further roots

-- the numbers in what a root names are a world's
pub record RootFits (c : Counts) (r : NamedRoot) : Type 0 where
  pub ty : fits c r.ty ≡ true
  pub method : method_is_below c r.method ≡ true

pub data RootsFit (c : Counts) : List NamedRoot → Type 0 where
  none : RootsFit c []
  more : (r : NamedRoot) (rs : List NamedRoot) → RootFits c r → RootsFit c rs → RootsFit c (r ∷ rs)

keys_too : (c : Counts) (n : ℕ) {rs : List NamedRoot} → RootsFit c rs → list_all (key_fits (wider c n)) (map root_key rs) ≡ true
keys_too c n none = refl
keys_too c n (more r rs h hs) = both _ _ (key_too c n (Tree r.ty) h.ty) (keys_too c n hs)

roots_too : (c : Counts) (n start : ℕ) {rs : List NamedRoot} → RootsFit c rs → start + length rs ≤ n → list_all (root_fits (wider c n)) (roots_from start rs) ≡ true
roots_too c n start none within = refl
roots_too c n start (more r rs h hs) within =
    both _ _ (both _ _ (lt-ltb start n (omega (arith, within))) (sym (same_below c n r.method) ∙ h.method)) (roots_too c n (start + 1) hs (omega (arith, within)))

pub length_of_roots : (start : ℕ) (rs : List NamedRoot) → length (roots_from start rs) ≡ length rs
length_of_roots start [] = refl
length_of_roots start (r ∷ rs) = ap suc (length_of_roots (start + 1) rs)

module _ (w : Facts) (whole : IsWhole w) (rs : List NamedRoot) (fit : RootsFit (counts w) rs) (room : length w.roots + length rs ≤ 256) where
  abbrev n : ℕ
  n = length (w.sigs ++ map root_key rs)

  count_sigs : n ≡ length w.sigs + length rs
  count_sigs = length-append w.sigs (map root_key rs) ∙ ap (λ (k : ℕ). length w.sigs + k) (length-map rs root_key)

  count_roots : length (w.roots ++ roots_from (length w.sigs) rs) ≡ length w.roots + length rs
  count_roots = length-append w.roots (roots_from (length w.sigs) rs) ∙ ap (λ (k : ℕ). length w.roots + k) (length_of_roots (length w.sigs) rs)

  grown : length w.sigs ≤ n
  grown = omega (arith, count_sigs)

  few_still : has_few (world_with w rs) ≡ true
  unfolding world_with
  few_still =
      let a = and_parts _ _ (parts w whole).few in
      let b = and_parts _ _ a.0 in
      let d = and_parts _ _ b.0 in
      let before : length w.sigs ≤ most + length w.roots = leb-true _ _ b.1 in
      both _ _
      (both _ _
      (both _ _ d.0 (le-leb (length (w.roots ++ roots_from (length w.sigs) rs)) 256 (omega (arith, count_roots, room))))
      (le-leb n (most + length (w.roots ++ roots_from (length w.sigs) rs)) (omega (arith, count_sigs, count_roots, before))))
      a.1

  things_still : things_fit (world_with w rs) ≡ true
  unfolding world_with
  things_still =
      let t = things w whole in
      let c = counts w in
      both _ _
      (both _ _
      (both _ _
      (both _ _ (all_too (def_fits c) (def_fits (wider c n)) (def_too c n) w.defs t.defs) (all_too (method_fits c) (method_fits (wider c n)) (method_too c n) w.methods t.methods))
      (all_too (field_fits c) (field_fits (wider c n)) (field_too c n) w.fields t.fields))
      (all_of_both (key_fits (wider c n)) w.sigs (map root_key rs) (all_too (key_fits c) (key_fits (wider c n)) (key_too c n) w.sigs t.keys) (keys_too c n fit)))
      (all_of_both (root_fits (wider c n)) w.roots (roots_from (length w.sigs) rs) (all_too (root_fits c) (root_fits (wider c n)) (root_too c n grown) w.roots t.roots)
      (roots_too c n (length w.sigs) fit (omega (arith, count_sigs))))

  files_still : files_fit (wider (counts w) n) w.files ≡ true
  files_still = all_too (file_fits (counts w)) (file_fits (wider (counts w) n)) (file_too (counts w) n grown) w.files (parts w whole).files

  pub whole_with : IsWhole (world_with w rs)
  unfolding world_with is_whole
  whole_with =
      let p = parts w whole in
      both _ _ (both _ _ (both _ _ (both _ _ (both _ _ few_still p.named) p.order) things_still) files_still) p.bodies

-- Trees without variables, and arguments that are put in twice.
use Rattle.std.proofs.Common.{◌≡◌, ℕ, zero, suc, Bool, true, false, true≢false, List, [], ◌∷◌, ◌++◌, length, map, Some, refl, ap, ap₂, ◌∙◌, sym, append_assoc, length-append}
use Rattle.std.specs.List.{list_all, range_with_len, Contains}
use Rattle.std.proofs.lemmas.Bool.{and_parts}
use Rattle.std.proofs.lemmas.Option.{none-some, same_Some}
use Rattle.clr_base.specs.declared.ids.DefId.{DefId}
use Rattle.type_tree.specs.declared.tree.Ty.{Ty}
use Rattle.type_tree.specs.declared.tree.Ty.TheOpen.{Ty-F}
use Rattle.type_tree.specs.declared.tree.Ty.TheVariants as ty
use Rattle.type_tree.specs.declared.tree.Ty.TheFolds.{fold-Ty}
use Rattle.type_tree.specs.Context.{arguments, arguments_at}
use Rattle.type_tree.specs.Kinds.{head, head_at}
use Rattle.type_tree.specs.Subst.{entry, subst_step, subst_ty, subst_all}
use Rattle.type_tree.proofs.Folds.{Known, trees, by_variants, fold-Inst, fold-Array, fold-ByRef, fold-Ptr, fold-Var, fold-MVar, fold-Missing, fold-Odd}
use Rattle.type_tree.proofs.SubstLemmas.{composes}
use Rattle.good_types.specs.Exact.{inst}
use Rattle.good_types.proofs.Elements.{first_in, later_in}

abbrev bare_step : Ty-F Bool → Bool
bare_step (Ty-F.Inst d parts) = list_all (λ p. p) parts
bare_step (Ty-F.Array part) = part
bare_step (Ty-F.ByRef part) = part
bare_step (Ty-F.Ptr part) = part
bare_step (Ty-F.Var n) = false
bare_step (Ty-F.MVar n) = false
bare_step (Ty-F.Missing name value) = true
bare_step (Ty-F.Odd code) = true

-- no variable stands in the tree
abbrev pub is_bare : Ty → Bool
is_bare = fold-Ty Bool bare_step

-- where nothing but instantiations, arrays, missing names and odd forms is there, of parts that are there too, no variable is
module _ (P : Ty → Type 0) (parts : (d : DefId) (ts : List Ty) (t : Ty) → P (ty.Inst d ts) → Contains ts t → P t) (element : (t : Ty) → P (ty.Array t) → P t)
    (no_ref : (t : Ty) → P (ty.ByRef t) → ⊥) (no_ptr : (t : Ty) → P (ty.Ptr t) → ⊥) (no_var : (n : ℕ) → P (ty.Var n) → ⊥) (no_mvar : (n : ℕ) → P (ty.MVar n) → ⊥) where
  abbrev IsBare : Ty → Type 0
  IsBare t = P t → is_bare t ≡ true

  parts_bare : (ps : List (Known IsBare)) → ((t : Ty) → Contains (trees IsBare ps) t → P t) → list_all (λ p. p) (map is_bare (trees IsBare ps)) ≡ true
  parts_bare [] each = refl
  parts_bare (p ∷ ps) each = rw (p.1 (each p.0 (first_in p.0 (trees IsBare ps)))) (parts_bare ps (λ t c. each t (later_in p.0 (trees IsBare ps) t c)))

  pub all_bare : (t : Ty) → P t → is_bare t ≡ true
  all_bare = by_variants IsBare (record {
    inst = λ d ps h. fold-Inst Bool bare_step d (trees IsBare ps) ∙ parts_bare ps (λ t c. parts d (trees IsBare ps) t h c);
    array = λ t ih h. fold-Array Bool bare_step t ∙ ih (element t h);
    by_ref = λ t ih h. absurd (no_ref t h);
    ptr = λ t ih h. absurd (no_ptr t h);
    var = λ n h. absurd (no_var n h);
    mvar = λ n h. absurd (no_mvar n h);
    missing = λ name value h. fold-Missing Bool bare_step name value;
    odd = λ code h. fold-Odd Bool bare_step code;
  })

-- ---- further arguments change nothing where no variable is left

entry-more : (xs more : List Ty) (n : ℕ) (otherwise : Ty) → is_bare otherwise ≡ false → is_bare (entry xs n otherwise) ≡ true → entry (xs ++ more) n otherwise ≡ entry xs n otherwise
entry-more [] more n otherwise out h = absurd (true≢false (sym h ∙ out))
entry-more (x ∷ xs) more zero otherwise out h = refl
entry-more (x ∷ xs) more (suc n) otherwise out h = entry-more xs more n otherwise out h

module _ (xs more : List Ty) where
  abbrev short : Ty → Ty
  short = subst_ty xs []

  abbrev long : Ty → Ty
  long = subst_ty (xs ++ more) []

  abbrev s1 : Ty-F Ty → Ty
  s1 = subst_step xs []

  abbrev s2 : Ty-F Ty → Ty
  s2 = subst_step (xs ++ more) []

  abbrev Stays : Ty → Type 0
  Stays t = is_bare (short t) ≡ true → long t ≡ short t

  parts_stay : (ps : List (Known Stays)) → list_all (λ p. p) (map is_bare (map short (trees Stays ps))) ≡ true → map long (trees Stays ps) ≡ map short (trees Stays ps)
  parts_stay [] h = refl
  parts_stay (p ∷ ps) h =
      let both = and_parts (is_bare (short p.0)) (list_all (λ p. p) (map is_bare (map short (trees Stays ps)))) h in
      ap₂ ◌∷◌ (p.1 both.0) (parts_stay ps both.1)

  more_stays : (t : Ty) → Stays t
  more_stays = by_variants Stays (record {
    inst = λ d ps h. let ts = trees Stays ps in
        fold-Inst Ty s2 d ts
        ∙ ap (ty.Inst d) (parts_stay ps (sym (ap is_bare (fold-Inst Ty s1 d ts) ∙ fold-Inst Bool bare_step d (map short ts)) ∙ h))
        ∙ sym (fold-Inst Ty s1 d ts);
    array = λ t ih h. fold-Array Ty s2 t ∙ ap ty.Array (ih (sym (ap is_bare (fold-Array Ty s1 t) ∙ fold-Array Bool bare_step (short t)) ∙ h)) ∙ sym (fold-Array Ty s1 t);
    by_ref = λ t ih h. fold-ByRef Ty s2 t ∙ ap ty.ByRef (ih (sym (ap is_bare (fold-ByRef Ty s1 t) ∙ fold-ByRef Bool bare_step (short t)) ∙ h)) ∙ sym (fold-ByRef Ty s1 t);
    ptr = λ t ih h. fold-Ptr Ty s2 t ∙ ap ty.Ptr (ih (sym (ap is_bare (fold-Ptr Ty s1 t) ∙ fold-Ptr Bool bare_step (short t)) ∙ h)) ∙ sym (fold-Ptr Ty s1 t);
    var = λ n h. fold-Var Ty s2 n ∙ entry-more xs more n (ty.Var n) (fold-Var Bool bare_step n) (sym (ap is_bare (fold-Var Ty s1 n)) ∙ h) ∙ sym (fold-Var Ty s1 n);
    mvar = λ n h. fold-MVar Ty s2 n ∙ sym (fold-MVar Ty s1 n);
    missing = λ name value h. fold-Missing Ty s2 name value ∙ sym (fold-Missing Ty s1 name value);
    odd = λ code h. fold-Odd Ty s2 code ∙ sym (fold-Odd Ty s1 code);
  })

module _ (args pargs : List Ty) where
  -- arguments put in after others are arguments put into these first
  pub put_twice : (t : Ty) → is_bare (subst_ty (subst_all args [] pargs) [] t) ≡ true → subst_ty args [] (subst_ty pargs [] t) ≡ subst_ty (subst_all args [] pargs) [] t
  put_twice t h = composes pargs [] args [] t ∙ more_stays (subst_all args [] pargs) _ t h

  pub all_twice : (ts : List Ty) → ((t : Ty) → Contains ts t → is_bare (subst_ty (subst_all args [] pargs) [] t) ≡ true)
      → subst_all args [] (subst_all pargs [] ts) ≡ subst_all (subst_all args [] pargs) [] ts
  all_twice [] each = refl
  all_twice (t ∷ ts) each = ap₂ ◌∷◌ (put_twice t (each t (first_in t ts))) (all_twice ts (λ u c. each u (later_in t ts u c)))

-- ---- instantiations

pub put_inst : (args : List Ty) (n : ℕ) (parts : List Ty) → subst_ty args [] (inst n parts) ≡ inst n (subst_all args [] parts)
put_inst args n parts = fold-Inst Ty (subst_step args []) (record { 0 = n }) parts

abbrev IsHeaded : Ty → Type 0
IsHeaded t = (n : ℕ) → head t ≡ Some n → t ≡ inst n (arguments t)

-- a tree with a head is an instantiation
pub headed : (t : Ty) (n : ℕ) → head t ≡ Some n → t ≡ inst n (arguments t)
headed = by_variants IsHeaded (record {
  inst = λ d ps n h. let ts = trees IsHeaded ps in headed_at d ts n h;
  array = λ t ih n h. absurd (none-some n (sym (ap head_at (ty.outs-Array t)) ∙ h));
  by_ref = λ t ih n h. absurd (none-some n (sym (ap head_at (ty.outs-ByRef t)) ∙ h));
  ptr = λ t ih n h. absurd (none-some n (sym (ap head_at (ty.outs-Ptr t)) ∙ h));
  var = λ k n h. absurd (none-some n (sym (ap head_at (ty.outs-Var k)) ∙ h));
  mvar = λ k n h. absurd (none-some n (sym (ap head_at (ty.outs-MVar k)) ∙ h));
  missing = λ name value n h. absurd (none-some n (sym (ap head_at (ty.outs-Missing name value)) ∙ h));
  odd = λ code n h. absurd (none-some n (sym (ap head_at (ty.outs-Odd code)) ∙ h));
})
  where
    headed_at : (d : DefId) (ts : List Ty) (n : ℕ) → head (ty.Inst d ts) ≡ Some n → ty.Inst d ts ≡ inst n (arguments (ty.Inst d ts))
    headed_at d ts n h = ap₂ ty.Inst (ap (λ m. record { 0 = m }) (same_Some d.0 n (sym (ap head_at (ty.outs-Inst d ts)) ∙ h))) (sym (ap arguments_at (ty.outs-Inst d ts)))

-- ---- a definition in its own generic parameters, with as many arguments put in

at_front : (ys xs : List Ty) (x otherwise : Ty) → entry (ys ++ x ∷ xs) (length ys) otherwise ≡ x
at_front [] xs x otherwise = refl
at_front (y ∷ ys) xs x otherwise = at_front ys xs x otherwise

own_from : (front xs : List Ty) → map (subst_ty (front ++ xs) []) (map ty.Var (range_with_len (length front) (length xs))) ≡ xs
own_from front [] = refl
own_from front (x ∷ xs) = ap₂ ◌∷◌
    (fold-Var Ty (subst_step (front ++ x ∷ xs) []) (length front) ∙ at_front front xs x (ty.Var (length front)))
    (ap₂ (λ args m. map (subst_ty args []) (map ty.Var (range_with_len m (length xs)))) (sym (append_assoc front (x ∷ []) xs)) (sym (length-append front (x ∷ []))) ∙ own_from (front ++ x ∷ []) xs)

pub own_put : (args : List Ty) (n : ℕ) → length args ≡ n → subst_all args [] (map ty.Var (range_with_len 0 n)) ≡ args
own_put args n e = ap (λ m. subst_all args [] (map ty.Var (range_with_len 0 m))) (sym e) ∙ own_from [] args

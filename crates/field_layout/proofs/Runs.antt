-- A walk over the run of a definition's fields.
use Rattle.std.proofs.Common.{◌≡◌, ℕ, zero, suc, ◌+◌, ◌-◌, ◌≤◌, ◌<◌, Bool, true, false, cond, List, [], ◌∷◌, ◌++◌, length, map, filter, take, drop, get_or, Option, Some, slice_get, refl, ap, ap₂, ◌∙◌, sym, arith, IsTrue, append_assoc, append-nil, drop-cons, leb-true}
use Rattle.std.proofs.lemmas.Bool.{and_parts}
use Rattle.std.proofs.lemmas.List.{map-append}
use Rattle.std.proofs.lemmas.Option.{slice_get_within, get_or_from_slice_get}
use Rattle.type_tree.specs.declared.tree.Ty.{Ty}
use Rattle.type_tree.specs.declared.definition.Def.{Def}
use Rattle.type_tree.specs.declared.definition.Field.{Field}
use Rattle.type_tree.specs.Fits.{def_fits}
use Rattle.type_tree.specs.Whole.{counts}
use Rattle.type_tree.specs.World.{Facts}
use Rattle.type_pool.specs.declared.nodes.Id.{Id}
use Rattle.type_pool.specs.Trees.{at, at_all, ids_below, Grows, Spells}
use Rattle.type_pool.specs.Jobs.{SpellAll}
use Rattle.type_pool.proofs.JobLemmas.{grows_refl, grows_trans, at_all-grown, below-grown, below-one}
use Rattle.field_layout.specs.Fields.{is_instance, own_fields, type_in, field_types, given_places}

-- the run of a definition's fields ends by the count of all
pub run_within : (w : Facts) (d : Def) → IsTrue (def_fits (counts w) d) → d.first_field + d.fields ≤ length w.fields
run_within w d h =
    let a = (and_parts _ _ h).0 in let b = (and_parts _ _ a).0 in let c = (and_parts _ _ b).0 in let e = (and_parts _ _ c).0 in
    leb-true (d.first_field + d.fields) (length w.fields) (and_parts _ _ (and_parts _ _ e).1).0

-- what is left of the run from the k-th field
abbrev pub rest : Facts → Def → ℕ → List Field
rest w d k = take (d.fields - k) (drop (d.first_field + k) w.fields)

take-cons : {A : Type 0} (n : ℕ) (x : A) (xs : List A) → take (suc n) (x ∷ xs) ≡ x ∷ take n xs
take-cons n x xs = refl

pub rest_next : (w : Facts) (d : Def) (k : ℕ) (f : Field) → k < d.fields → slice_get w.fields (d.first_field + k) ≡ Some f → rest w d k ≡ f ∷ rest w d (k + 1)
rest_next w d k f inside here =
    let i : ℕ = d.first_field + k in
    let within = slice_get_within w.fields i f here in
    let row : drop i w.fields ≡ f ∷ drop (suc i) w.fields = drop-cons w.fields i f within ∙ ap (λ x. x ∷ drop (suc i) w.fields) (get_or_from_slice_get w.fields i f f here) in
    let left : d.fields - k ≡ suc (d.fields - (k + 1)) = omega arith in
    let after : suc i ≡ d.first_field + (k + 1) = omega arith in
    ap₂ take left row ∙ ap (λ j. f ∷ take (d.fields - (k + 1)) (drop j w.fields)) after

pub rest_first : (w : Facts) (d : Def) → rest w d 0 ≡ take d.fields (drop d.first_field w.fields)
rest_first w d = let a : d.fields - 0 ≡ d.fields = omega arith in let b : d.first_field + 0 ≡ d.first_field = omega arith in ap₂ (λ m n. take m (drop n w.fields)) a b

pub rest_last : (w : Facts) (d : Def) (k : ℕ) → d.fields ≤ k → rest w d k ≡ []
rest_last w d k past = let a : d.fields - k ≡ 0 = omega arith in ap (λ m. take m (drop (d.first_field + k) w.fields)) a ∙ take-none (drop (d.first_field + k) w.fields)
  where
    take-none : (xs : List Field) → take 0 xs ≡ []
    take-none [] = refl
    take-none (x ∷ xs) = refl

-- ---- types

pub record Typing (w : Facts) (d : Def) (args : List Ty) (ts0 : List Ty) (k : ℕ) (ts : List Ty) (ids : List Id) : Type 0 where
  pub grows : Grows ts0 ts
  pub within : ids_below (length ts) ids ≡ true
  pub are : at_all ts ids ++ map (type_in args) (filter is_instance (rest w d k)) ≡ field_types w d args

pub typing_first : (w : Facts) (d : Def) (args ts : List Ty) → Typing w d args ts 0 ts []
typing_first w d args ts = record {
  grows = grows_refl ts;
  within = refl;
  are = ap (λ l. map (type_in args) (filter is_instance l)) (rest_first w d);
}

module _ (w : Facts) (d : Def) (args ts0 : List Ty) (k : ℕ) (ts : List Ty) (ids : List Id) (was : Typing w d args ts0 k ts ids) where
  pub typing_last : d.fields ≤ k → SpellAll ts ids (field_types w d args)
  typing_last past = record {
    within = was.within;
    are = sym (append-nil (at_all ts ids)) ∙ ap (λ l. at_all ts ids ++ map (type_in args) (filter is_instance l)) (sym (rest_last w d k past)) ∙ was.are;
  }

  module _ (f : Field) (inside : k < d.fields) (here : slice_get w.fields (d.first_field + k) ≡ Some f) where
    pub typing_skip : is_instance f ≡ false → Typing w d args ts0 (k + 1) ts ids
    typing_skip other =
        let step : filter is_instance (f ∷ rest w d (k + 1)) ≡ filter is_instance (rest w d (k + 1)) = rw other refl in
        record {
          grows = was.grows;
          within = was.within;
          are = ap (λ l. at_all ts ids ++ map (type_in args) l) (sym step ∙ ap (filter is_instance) (sym (rest_next w d k f inside here))) ∙ was.are;
        }

    pub typing_push : is_instance f ≡ true → (us : List Ty) (r : Id) → Grows ts us → Spells us r (type_in args f) → Typing w d args ts0 (k + 1) us (ids ++ r ∷ [])
    typing_push instance us r g s =
        let step : filter is_instance (f ∷ rest w d (k + 1)) ≡ f ∷ filter is_instance (rest w d (k + 1)) = rw instance refl in
        let more = map (type_in args) (filter is_instance (rest w d (k + 1))) in
        let made : at_all us (ids ++ r ∷ []) ≡ at_all ts ids ++ type_in args f ∷ [] =
        map-append (at us) ids (r ∷ []) ∙ ap₂ (λ a b. a ++ b ∷ []) (at_all-grown ts us g ids was.within) s.is in
        record {
          grows = grows_trans ts0 ts us was.grows g;
          within = below-one (length us) ids r (below-grown ts us g ids was.within) s.within;
          are = ap (λ l. l ++ more) made ∙ append_assoc (at_all ts ids) (type_in args f ∷ []) more
              ∙ ap (λ l. at_all ts ids ++ map (type_in args) l) (sym step ∙ ap (filter is_instance) (sym (rest_next w d k f inside here))) ∙ was.are;
        }

-- ---- places

abbrev place_of : Field → Option ℕ
place_of f = f.place

abbrev pub Giving : Facts → Def → ℕ → List (Option ℕ) → Type 0
Giving w d k places = places ++ map (λ f. f.place) (filter is_instance (rest w d k)) ≡ given_places w d

pub giving_first : (w : Facts) (d : Def) → Giving w d 0 []
giving_first w d = ap (λ l. map place_of (filter is_instance l)) (rest_first w d)

module _ (w : Facts) (d : Def) (k : ℕ) (places : List (Option ℕ)) (was : Giving w d k places) where
  pub giving_last : d.fields ≤ k → places ≡ given_places w d
  giving_last past = sym (append-nil places) ∙ ap (λ l. places ++ map place_of (filter is_instance l)) (sym (rest_last w d k past)) ∙ was

  module _ (f : Field) (inside : k < d.fields) (here : slice_get w.fields (d.first_field + k) ≡ Some f) where
    pub giving_skip : is_instance f ≡ false → Giving w d (k + 1) places
    giving_skip other =
        let step : filter is_instance (f ∷ rest w d (k + 1)) ≡ filter is_instance (rest w d (k + 1)) = rw other refl in
        ap (λ l. places ++ map place_of l) (sym step ∙ ap (filter is_instance) (sym (rest_next w d k f inside here))) ∙ was

    pub giving_push : is_instance f ≡ true → Giving w d (k + 1) (places ++ f.place ∷ [])
    giving_push instance =
        let step : filter is_instance (f ∷ rest w d (k + 1)) ≡ f ∷ filter is_instance (rest w d (k + 1)) = rw instance refl in
        append_assoc places (f.place ∷ []) (map place_of (filter is_instance (rest w d (k + 1))))
        ∙ ap (λ l. places ++ map place_of l) (sym step ∙ ap (filter is_instance) (sym (rest_next w d k f inside here))) ∙ was

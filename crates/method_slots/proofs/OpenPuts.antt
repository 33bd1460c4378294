-- How a set of names and signatures grows.
use Rattle.std.proofs.Common.{◌≡◌, ℕ, true, false, cond, inl, inr, List, [], ◌∷◌, ◌++◌, Some, slice_get, ap, ◌∙◌, sym, subst, true≢false, append-nil, refl}
use Rattle.std.proofs.lemmas.Bool.{cases_Bool}
use Rattle.std.specs.List.{list_any}
use Rattle.indexmap.specs.IndexSet.{insert_key}
use Rattle.method_slots.specs.declared.opens.OpenMethod.{OpenMethod}
use Rattle.method_slots.specs.OpenSame.{same_numbers, numbers_are, are_numbers}
use Rattle.method_slots.specs.OpenSets.{OpensOnce, OpenPut}
use Rattle.type_pool.proofs.Gets.{get_cases, any_at}

pub empty_once : OpensOnce []
empty_once i j k h = absurd (cc)

-- a list in which a new one goes last
module _ (ks : List OpenMethod) (k : OpenMethod) (once : OpensOnce ks) (new : list_any (same_numbers k) ks ≡ false) where
  unlike : (i : ℕ) → slice_get ks i ≡ Some k → ⊥
  unlike i h = true≢false (sym (any_at (same_numbers k) ks i k h (are_numbers k k refl)) ∙ new)

  once_grown : OpensOnce (ks ++ k ∷ [])
  once_grown i j u p q = elim (get_cases ks k i u p) [
    | inl old ↦ elim (get_cases ks k j u q) [
      | inl also ↦ once i j u old also
      | inr fresh ↦ absurd (unlike i (rw fresh.1 old))
    ]
    | inr fresh ↦ elim (get_cases ks k j u q) [
      | inl also ↦ absurd (unlike j (rw fresh.1 also))
      | inr last ↦ fresh.0 ∙ sym last.0
    ]
  ]

pub open_put : (old new : List OpenMethod) (k found : OpenMethod) (i : ℕ) → OpensOnce old → new ≡ insert_key same_numbers old k
    → slice_get new i ≡ Some found → same_numbers k found ≡ true → OpenPut old new i k
open_put old new k found i once made stored same = elim (cases_Bool (list_any (same_numbers k) old)) [
  | inl there ↦ let stays : new ≡ old = made ∙ ap (λ b. cond b old (old ++ k ∷ [])) there in record {
    once = subst OpensOnce (sym stays) once;
    grows = ([], stays ∙ sym (append-nil old));
    adds = inl stays;
    here = here;
  }
  | inr absent ↦ let adds : new ≡ old ++ k ∷ [] = made ∙ ap (λ b. cond b old (old ++ k ∷ [])) absent in record {
    once = subst OpensOnce (sym adds) (once_grown old k once absent);
    grows = (k ∷ [], adds);
    adds = inr adds;
    here = here;
  }
]
  where
    here : slice_get new i ≡ Some k
    here = stored ∙ ap Some (sym (numbers_are k found same))

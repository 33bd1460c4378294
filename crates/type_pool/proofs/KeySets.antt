-- How a set of keys grows.
use Rattle.std.proofs.Common.{◌≡◌, ℕ, true, false, cond, inl, inr, List, [], ◌∷◌, ◌++◌, length, Some, slice_get, ap, ◌∙◌, sym, subst, true≢false, append-nil, refl}
use Rattle.std.proofs.lemmas.Bool.{cases_Bool}
use Rattle.std.specs.List.{list_any}
use Rattle.indexmap.specs.IndexSet.{insert_key}
use Rattle.type_pool.specs.declared.key_nodes.KeyNode.{KeyNode}
use Rattle.type_pool.specs.KeySame.{same_key, key_is, is_key}
use Rattle.type_pool.specs.Keys.{NodesOnce, NodesGrow, KeyPut}
use Rattle.type_pool.proofs.Gets.{get_cases, any_at}

pub empty_once : NodesOnce []
empty_once i j k h = absurd (cc)

-- a list of keys in which a new one goes last
module _ (ks : List KeyNode) (k : KeyNode) (once : NodesOnce ks) (new : list_any (same_key k) ks ≡ false) where
  unlike : (i : ℕ) → slice_get ks i ≡ Some k → ⊥
  unlike i h = true≢false (sym (any_at (same_key k) ks i k h (is_key k k refl)) ∙ new)

  once_grown : NodesOnce (ks ++ k ∷ [])
  once_grown i j u p q = elim (get_cases ks k i u p) [
    | inl old ↦ elim (get_cases ks k j u q) [
      | inl also ↦ once i j u old also
      | inr fresh ↦ absurd (unlike i (rw fresh.1 old))
    ]
    | inr fresh ↦ elim (get_cases ks k j u q) [
      | inl also ↦ absurd (unlike j (rw fresh.1 also))
      | inr last ↦ fresh.0 ∙ sym last.0
    ]
  ]

pub key_put : (old new : List KeyNode) (k found : KeyNode) (i : ℕ) → NodesOnce old → new ≡ insert_key same_key old k
    → slice_get new i ≡ Some found → same_key k found ≡ true → KeyPut old new i k
key_put old new k found i once made stored same = elim (cases_Bool (list_any (same_key k) old)) [
  | inl there ↦ let stays : new ≡ old = made ∙ ap (λ b. cond b old (old ++ k ∷ [])) there in record {
    once = subst NodesOnce (sym stays) once;
    grows = ([], stays ∙ sym (append-nil old));
    adds = inl stays;
    here = here;
  }
  | inr absent ↦ let adds : new ≡ old ++ k ∷ [] = made ∙ ap (λ b. cond b old (old ++ k ∷ [])) absent in record {
    once = subst NodesOnce (sym adds) (once_grown old k once absent);
    grows = (k ∷ [], adds);
    adds = inr adds;
    here = here;
  }
]
  where
    here : slice_get new i ≡ Some k
    here = stored ∙ ap Some (sym (key_is k found same))

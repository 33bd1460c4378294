-- The loop that reads a list.
use Rattle.std.proofs.Common.{◌≡◌, ◌≢◌, ℕ, List, [], ◌∷◌, ◌++◌, refl, ap, ◌∙◌, sym, subst, append_assoc}
use Rattle.type_tree.specs.declared.tree.Ty.{Ty}
use Rattle.type_tree.specs.Reading.{BeginsList, last, next}
use Rattle.type_tree.proofs.ReadingLemmas.{IsDetermined, comma_or_bracket}

-- what is left to read makes, behind what is done, what the whole text begins with; and only that
pub record GoesOn (One : List ℕ → Ty → List ℕ → Type 0) (text : List ℕ) (done : List Ty) (rest : List ℕ) : Type 0 where
  pub sound : (ts : List Ty) (r : List ℕ) → BeginsList One rest ts r → BeginsList One text (done ++ ts) r
  pub complete : (us : List Ty) (r : List ℕ) → BeginsList One text us r → (ts : List Ty) × (us ≡ done ++ ts) × BeginsList One rest ts r

module _ (One : List ℕ → Ty → List ℕ → Type 0) (one : IsDetermined One) where
  pub starts : (text : List ℕ) → GoesOn One text [] text
  starts text = record { sound = λ ts r h. h; complete = λ us r h. (us, refl, h) }

  -- a list begins with a tree
  first : {text : List ℕ} {ts : List Ty} {r : List ℕ} → BeginsList One text ts r → (t : Ty) × (after : List ℕ) × One text t after
  first (last s t r h) = (t, 93 ∷ r, h)
  first (next s t others ts r h hs) = (t, 44 ∷ others, h)

  -- behind a comma it goes on
  behind_comma : {text : List ℕ} {t : Ty} {others : List ℕ} {us : List Ty} {r : List ℕ} → One text t (44 ∷ others) → BeginsList One text us r → (ts : List Ty) × (us ≡ t ∷ ts) × BeginsList One others ts r
  behind_comma {others = others} h (last s u r k) = absurd (comma_or_bracket r others (sym (one _ _ _ _ _ h k).1))
  behind_comma {t = t} {others = others} h (next s u others2 ts r k ks) =
      let e = one _ _ _ _ _ h k in
      let e1 : 44 ∷ others ≡ 44 ∷ others2 = e.1 in
      let same : others2 ≡ others = cc in
      (ts, ap (λ x. x ∷ ts) (sym e.0), subst (λ o. BeginsList One o ts r) same ks)

  pub goes_on : {text : List ℕ} {done : List Ty} {rest : List ℕ} (t : Ty) (others : List ℕ) → GoesOn One text done rest → One rest t (44 ∷ others) → GoesOn One text (done ++ t ∷ []) others
  goes_on {text = text} {done = done} {rest = rest} t others so_far h = record {
    sound = λ ts r k. subst (λ us. BeginsList One text us r) (sym (append_assoc done (t ∷ []) ts)) (so_far.sound (t ∷ ts) r (next rest t others ts r h k));
    complete = λ us r k.
        let before = so_far.complete us r k in
        let behind = behind_comma h before.2 in
        (behind.0, before.1 ∙ ap (λ ts. done ++ ts) behind.1 ∙ sym (append_assoc done (t ∷ []) behind.0), behind.2);
  }

  pub ends : {text : List ℕ} {done : List Ty} {rest : List ℕ} (t : Ty) (behind : List ℕ) → GoesOn One text done rest → One rest t (93 ∷ behind) → BeginsList One text (done ++ t ∷ []) behind
  ends {rest = rest} t behind so_far h = so_far.sound (t ∷ []) behind (last rest t behind h)

  pub none_next : {text : List ℕ} {done : List Ty} {rest : List ℕ} → GoesOn One text done rest → ((t : Ty) (r : List ℕ) → ¬ (One rest t r)) → (ts : List Ty) (r : List ℕ) → ¬ (BeginsList One text ts r)
  none_next so_far never ts r h =
      let k = so_far.complete ts r h in
      let f = first k.2 in
      never f.0 f.1 f.2

  unmarked : {rest : List ℕ} {us : List Ty} {q : List ℕ} (t : Ty) (after : List ℕ) → One rest t after → ((q : List ℕ) → after ≢ 93 ∷ q) → ((q : List ℕ) → after ≢ 44 ∷ q) → BeginsList One rest us q → ⊥
  unmarked t after h no_bracket no_comma (last s u q m) = no_bracket q (one _ _ _ _ _ h m).1
  unmarked t after h no_bracket no_comma (next s u others us q m ms) = no_comma others (one _ _ _ _ _ h m).1

  pub no_mark : {text : List ℕ} {done : List Ty} {rest : List ℕ} (t : Ty) (after : List ℕ) → GoesOn One text done rest → One rest t after
      → ((q : List ℕ) → after ≢ 93 ∷ q) → ((q : List ℕ) → after ≢ 44 ∷ q) → (ts : List Ty) (r : List ℕ) → ¬ (BeginsList One text ts r)
  no_mark t after so_far h no_bracket no_comma ts r k = unmarked t after h no_bracket no_comma (so_far.complete ts r k).2

-- Fields in order: apart, aligned, and within the own part.
use Rattle.std.proofs.Common.{◌≡◌, ◌≢◌, inl, inr, ℕ, zero, suc, ◌+◌, ◌≤◌, ◌%◌, Bool, true, false, List, [], ◌∷◌, length, refl, ap, ◌∙◌, sym, subst, arith, true≢false}
use Rattle.std.proofs.lemmas.Bool.{cases_Bool, and_parts}
use Rattle.field_places.specs.declared.shape.Shape.{Shape}
use Rattle.field_places.specs.Shapes as are
use Rattle.field_places.specs.Places.{least_at, end_at, end_of, placed}
use Rattle.field_places.specs.Laws.{Stands, Behind}
use Rattle.field_places.proofs.Least.{least_at-is}
use Rattle.field_places.proofs.Orders.{shape_is, end_at-above, end_of-above}

tail_stands : (p : ℕ) (ps : List ℕ) (s : Shape) (ss : List Shape) (i q : ℕ) (t : Shape) → Stands (p ∷ ps) (s ∷ ss) (suc i) q t → Stands ps ss i q t
tail_stands p ps s ss i q t h = record { at = h.at; takes = h.takes }

head_stands : (p : ℕ) (ps : List ℕ) (s : Shape) (ss : List Shape) (q : ℕ) (t : Shape) → Stands (p ∷ ps) (s ∷ ss) zero q t → (p ≡ q) × (s ≡ t)
head_stands p ps s ss q t h = (let a = h.at in cc, let b = h.takes in cc)

-- ---- one rank

module _ (chosen : Shape → Bool) where
  -- the others stay
  pub others : (at : ℕ) (ss : List Shape) (ps : List ℕ) (i q : ℕ) (t : Shape) → Stands (placed chosen at ss ps) ss i q t → chosen t ≡ false → Stands ps ss i q t
  others at [] ps i q t h other = h
  others at (s ∷ ss) [] i q t h other = h
  others at (s ∷ ss) (p ∷ ps) i q t h other =
      let rest = λ (n j : ℕ) (k : Stands (placed chosen n ss ps) ss j q t). others n ss ps j q t k other in
      elim (cases_Bool (chosen s)) [ inl e ↦ first rest e i h | inr e ↦ later rest e i h ]
    where
      first : ((n j : ℕ) → Stands (placed chosen n ss ps) ss j q t → Stands ps ss j q t) → chosen s ≡ true → (i : ℕ) → Stands (placed chosen at (s ∷ ss) (p ∷ ps)) (s ∷ ss) i q t → Stands (p ∷ ps) (s ∷ ss) i q t
      first rest e zero h = let r = h.takes in let same : s ≡ t = cc in absurd (true≢false (sym e ∙ ap chosen same ∙ other))
      first rest e (suc i) h =
          let row : placed chosen at (s ∷ ss) (p ∷ ps) ≡ least_at s.align at ∷ placed chosen (end_at at s) ss ps = rw e refl in
          let k = tail_stands _ _ s ss i q t (subst (λ (l : List ℕ). Stands l (s ∷ ss) (suc i) q t) row h) in
          let r = rest (end_at at s) i k in record { at = r.at; takes = r.takes }

      later : ((n j : ℕ) → Stands (placed chosen n ss ps) ss j q t → Stands ps ss j q t) → chosen s ≡ false → (i : ℕ) → Stands (placed chosen at (s ∷ ss) (p ∷ ps)) (s ∷ ss) i q t → Stands (p ∷ ps) (s ∷ ss) i q t
      later rest e zero h =
          let row : placed chosen at (s ∷ ss) (p ∷ ps) ≡ p ∷ placed chosen at ss ps = rw e refl in
          let k = subst (λ (l : List ℕ). Stands l (s ∷ ss) zero q t) row h in record { at = k.at; takes = k.takes }
      later rest e (suc i) h =
          let row : placed chosen at (s ∷ ss) (p ∷ ps) ≡ p ∷ placed chosen at ss ps = rw e refl in
          let k = tail_stands _ _ s ss i q t (subst (λ (l : List ℕ). Stands l (s ∷ ss) (suc i) q t) row h) in
          let r = rest at i k in record { at = r.at; takes = r.takes }

  -- what is known of a chosen field
  pub record Chosen (at end q : ℕ) (t : Shape) : Type 0 where
    pub aligned : q % t.align ≡ 0
    pub above : at ≤ q
    pub within : q + t.size ≤ end

  pub chosen_stand : (at : ℕ) (ss : List Shape) (ps : List ℕ) → are.are_shapes ss ≡ true → (i q : ℕ) (t : Shape) → Stands (placed chosen at ss ps) ss i q t → chosen t ≡ true → length ps ≡ length ss → Chosen at (end_of chosen at ss) q t
  chosen_stand at [] ps sound i q t h is_chosen len = absurd (let r = h.takes in cc)
  chosen_stand at (s ∷ ss) [] sound i q t h is_chosen len = absurd (let r = h.at in cc)
  chosen_stand at (s ∷ ss) (p ∷ ps) sound i q t h is_chosen len =
      let rest = λ (n j : ℕ) (k : Stands (placed chosen n ss ps) ss j q t). chosen_stand n ss ps (and_parts _ _ sound).1 j q t k is_chosen (omega arith) in
      elim (cases_Bool (chosen s)) [ inl e ↦ first rest e i h | inr e ↦ later rest e i h ]
    where
      a : (are.is_shape s ≡ true) × (are.are_shapes ss ≡ true)
      a = and_parts _ _ sound

      first : ((n j : ℕ) → Stands (placed chosen n ss ps) ss j q t → Chosen n (end_of chosen n ss) q t) → chosen s ≡ true → (i : ℕ) → Stands (placed chosen at (s ∷ ss) (p ∷ ps)) (s ∷ ss) i q t → Chosen at (end_of chosen at (s ∷ ss)) q t
      first rest e zero h =
          let row : placed chosen at (s ∷ ss) (p ∷ ps) ≡ least_at s.align at ∷ placed chosen (end_at at s) ss ps = rw e refl in
          let end : end_of chosen at (s ∷ ss) ≡ end_of chosen (end_at at s) ss = rw e refl in
          let k = head_stands _ _ s ss q t (subst (λ (l : List ℕ). Stands l (s ∷ ss) zero q t) row h) in
          let sh = shape_is s a.0 in
          let least = least_at-is s.align at sh.aligned in
          let more = end_of-above chosen (end_at at s) ss a.1 in
          subst (λ (x : Shape). Chosen at (end_of chosen at (s ∷ ss)) q x) k.1 (subst (λ (n : ℕ). Chosen at (end_of chosen at (s ∷ ss)) n s) k.0
          (rw end (record { aligned = least.aligned; above = least.above; within = more })))
      first rest e (suc i) h =
          let row : placed chosen at (s ∷ ss) (p ∷ ps) ≡ least_at s.align at ∷ placed chosen (end_at at s) ss ps = rw e refl in
          let end : end_of chosen at (s ∷ ss) ≡ end_of chosen (end_at at s) ss = rw e refl in
          let k = tail_stands _ _ s ss i q t (subst (λ (l : List ℕ). Stands l (s ∷ ss) (suc i) q t) row h) in
          let r = rest (end_at at s) i k in
          let up = end_at-above at s (shape_is s a.0) in
          let r1 = r.above in
          rw end (record { aligned = r.aligned; above = omega arith; within = r.within })

      later : ((n j : ℕ) → Stands (placed chosen n ss ps) ss j q t → Chosen n (end_of chosen n ss) q t) → chosen s ≡ false → (i : ℕ) → Stands (placed chosen at (s ∷ ss) (p ∷ ps)) (s ∷ ss) i q t → Chosen at (end_of chosen at (s ∷ ss)) q t
      later rest e zero h = let r = h.takes in let same : s ≡ t = cc in absurd (true≢false (sym is_chosen ∙ sym (ap chosen same) ∙ e))
      later rest e (suc i) h =
          let row : placed chosen at (s ∷ ss) (p ∷ ps) ≡ p ∷ placed chosen at ss ps = rw e refl in
          let end : end_of chosen at (s ∷ ss) ≡ end_of chosen at ss = rw e refl in
          let k = tail_stands _ _ s ss i q t (subst (λ (l : List ℕ). Stands l (s ∷ ss) (suc i) q t) row h) in
          rw end (rest at i k)

  turn : (p : ℕ) (s : Shape) (q : ℕ) (t : Shape) → Behind p s q t → Behind q t p s
  turn p s q t (inl h) = inr h
  turn p s q t (inr h) = inl h

  pub chosen_apart : (at : ℕ) (ss : List Shape) (ps : List ℕ) → are.are_shapes ss ≡ true → length ps ≡ length ss → (i j p q : ℕ) (s t : Shape) → i ≢ j
      → Stands (placed chosen at ss ps) ss i p s → Stands (placed chosen at ss ps) ss j q t → chosen s ≡ true → chosen t ≡ true → Behind p s q t
  chosen_apart at [] ps sound len i j p q s t ne h k cs ct = absurd (let r = h.takes in cc)
  chosen_apart at (x ∷ ss) [] sound len i j p q s t ne h k cs ct = absurd (let r = h.at in cc)
  chosen_apart at (x ∷ ss) (o ∷ ps) sound len i j p q s t ne h k cs ct =
      let rest = λ (n i j : ℕ) (d : i ≢ j) (h : Stands (placed chosen n ss ps) ss i p s) (k : Stands (placed chosen n ss ps) ss j q t). chosen_apart n ss ps (and_parts _ _ sound).1 (omega arith) i j p q s t d h k cs ct in
      elim (cases_Bool (chosen x)) [ inl e ↦ first rest e i j ne h k | inr e ↦ later rest e i j ne h k ]
    where
      a : (are.is_shape x ≡ true) × (are.are_shapes ss ≡ true)
      a = and_parts _ _ sound

      -- the first ends where the others begin
      ahead : chosen x ≡ true → (j q : ℕ) (t : Shape) (p : ℕ) (s : Shape) → Stands (placed chosen at (x ∷ ss) (o ∷ ps)) (x ∷ ss) zero p s → Stands (placed chosen at (x ∷ ss) (o ∷ ps)) (x ∷ ss) (suc j) q t → chosen t ≡ true → p + s.size ≤ q
      ahead e j q t p s h k ct =
          let row : placed chosen at (x ∷ ss) (o ∷ ps) ≡ least_at x.align at ∷ placed chosen (end_at at x) ss ps = rw e refl in
          let one = head_stands _ _ x ss p s (subst (λ (l : List ℕ). Stands l (x ∷ ss) zero p s) row h) in
          let two = tail_stands _ _ x ss j q t (subst (λ (l : List ℕ). Stands l (x ∷ ss) (suc j) q t) row k) in
          let c = (chosen_stand (end_at at x) ss ps a.1 j q t two ct (omega arith)).above in
          let sz : s.size ≡ x.size = ap (λ y. y.size) (sym one.1) in
          let pp = one.0 in
          omega arith

      first : ((n i j : ℕ) → i ≢ j → Stands (placed chosen n ss ps) ss i p s → Stands (placed chosen n ss ps) ss j q t → Behind p s q t) → chosen x ≡ true → (i j : ℕ) → i ≢ j → Stands (placed chosen at (x ∷ ss) (o ∷ ps)) (x ∷ ss) i p s → Stands (placed chosen at (x ∷ ss) (o ∷ ps)) (x ∷ ss) j q t → Behind p s q t
      first rest e zero zero ne h k = absurd (ne refl)
      first rest e zero (suc j) ne h k = inl (ahead e j q t p s h k ct)
      first rest e (suc i) zero ne h k = inr (ahead e i p s q t k h cs)
      first rest e (suc i) (suc j) ne h k =
          let row : placed chosen at (x ∷ ss) (o ∷ ps) ≡ least_at x.align at ∷ placed chosen (end_at at x) ss ps = rw e refl in
          let one = tail_stands _ _ x ss i p s (subst (λ (l : List ℕ). Stands l (x ∷ ss) (suc i) p s) row h) in
          let two = tail_stands _ _ x ss j q t (subst (λ (l : List ℕ). Stands l (x ∷ ss) (suc j) q t) row k) in
          rest (end_at at x) i j (λ z. ne (ap suc z)) one two

      later : ((n i j : ℕ) → i ≢ j → Stands (placed chosen n ss ps) ss i p s → Stands (placed chosen n ss ps) ss j q t → Behind p s q t) → chosen x ≡ false → (i j : ℕ) → i ≢ j → Stands (placed chosen at (x ∷ ss) (o ∷ ps)) (x ∷ ss) i p s → Stands (placed chosen at (x ∷ ss) (o ∷ ps)) (x ∷ ss) j q t → Behind p s q t
      later rest e zero j ne h k = let r = h.takes in let same : x ≡ s = cc in absurd (true≢false (sym cs ∙ sym (ap chosen same) ∙ e))
      later rest e (suc i) zero ne h k = let r = k.takes in let same : x ≡ t = cc in absurd (true≢false (sym ct ∙ sym (ap chosen same) ∙ e))
      later rest e (suc i) (suc j) ne h k =
          let row : placed chosen at (x ∷ ss) (o ∷ ps) ≡ o ∷ placed chosen at ss ps = rw e refl in
          let one = tail_stands _ _ x ss i p s (subst (λ (l : List ℕ). Stands l (x ∷ ss) (suc i) p s) row h) in
          let two = tail_stands _ _ x ss j q t (subst (λ (l : List ℕ). Stands l (x ∷ ss) (suc j) q t) row k) in
          rest at i j (λ z. ne (ap suc z)) one two

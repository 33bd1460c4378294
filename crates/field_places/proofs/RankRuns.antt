-- The fields of one rank as steps: their order, and why no place is lower.
use Rattle.std.proofs.Common.{◌≡◌, ℕ, zero, suc, ◌+◌, ◌≤◌, ◌<◌, ◌%◌, Bool, true, false, List, [], ◌∷◌, length, refl, ap, ◌∙◌, sym, arith, true≢false, inl, inr}
use Rattle.std.proofs.lemmas.Bool.{cases_Bool, and_parts}
use Rattle.field_places.specs.declared.shape.Shape.{Shape}
use Rattle.field_places.specs.Shapes as are
use Rattle.field_places.specs.Places.{least_at, end_at, end_of, placed}
use Rattle.field_places.specs.Standing.{Stands}
use Rattle.field_places.proofs.Least.{least_at-is}
use Rattle.field_places.proofs.Orders.{shape_is}

-- a run from `at`, which puts the chosen fields and leaves the others where they are
pub data Run (chosen : Shape → Bool) : ℕ → List Shape → List ℕ → ℕ → Type 0 where
  done : (at : ℕ) → Run chosen at [] [] at
  put : (at : ℕ) (s : Shape) (ss : List Shape) (ps : List ℕ) (end : ℕ) → chosen s ≡ true → Run chosen (end_at at s) ss ps end → Run chosen at (s ∷ ss) (least_at s.align at ∷ ps) end
  leave : (at p : ℕ) (s : Shape) (ss : List Shape) (ps : List ℕ) (end : ℕ) → chosen s ≡ false → Run chosen at ss ps end → Run chosen at (s ∷ ss) (p ∷ ps) end

pub run_is : (chosen : Shape → Bool) (at : ℕ) (ss : List Shape) (ps : List ℕ) → length ps ≡ length ss → Run chosen at ss (placed chosen at ss ps) (end_of chosen at ss)
run_is chosen at [] [] len = done at
run_is chosen at [] (p ∷ ps) len = absurd (omega arith)
run_is chosen at (s ∷ ss) [] len = absurd (omega arith)
run_is chosen at (s ∷ ss) (p ∷ ps) len = elim (cases_Bool (chosen s)) [
  | inl e ↦ rw e (put at s ss (placed chosen (end_at at s) ss ps) (end_of chosen (end_at at s) ss) e (run_is chosen (end_at at s) ss ps (omega arith)))
  | inr e ↦ rw e (leave at p s ss (placed chosen at ss ps) (end_of chosen at ss) e (run_is chosen at ss ps (omega arith)))
]

tail : (p : ℕ) (ps : List ℕ) (s : Shape) (ss : List Shape) (i q : ℕ) (t : Shape) → Stands (p ∷ ps) (s ∷ ss) (suc i) q t → Stands ps ss i q t
tail p ps s ss i q t h = record { at = h.at; takes = h.takes }

further : (p : ℕ) (ps : List ℕ) (s : Shape) (ss : List Shape) (i q : ℕ) (t : Shape) → Stands ps ss i q t → Stands (p ∷ ps) (s ∷ ss) (suc i) q t
further p ps s ss i q t h = record { at = h.at; takes = h.takes }

head_at : (p : ℕ) (ps : List ℕ) (s : Shape) (ss : List Shape) (q : ℕ) (t : Shape) → Stands (p ∷ ps) (s ∷ ss) zero q t → (p ≡ q) × (s ≡ t)
head_at p ps s ss q t h = (let a = h.at in cc, let b = h.takes in cc)

not_both : (chosen : Shape → Bool) (s t : Shape) → s ≡ t → chosen s ≡ false → chosen t ≡ true → ⊥
not_both chosen s t same out within = true≢false (sym within ∙ sym (ap chosen same) ∙ out)

module _ (chosen : Shape → Bool) where
  -- each place is at or past the begin
  run_above : {at : ℕ} {ss : List Shape} {ps : List ℕ} {end : ℕ} → Run chosen at ss ps end → are.are_shapes ss ≡ true → (j q : ℕ) (t : Shape) → Stands ps ss j q t → chosen t ≡ true → at ≤ q
  run_above (done at) sound j q t k c = absurd (let a = k.at in cc)
  run_above (put at s ss ps end e r) sound zero q t k c =
      let a = (head_at _ ps s ss q t k).0 in
      let l = (least_at-is s.align at (shape_is s (and_parts _ _ sound).0).aligned).above in omega arith
  run_above (put at s ss ps end e r) sound (suc j) q t k c =
      let l = (least_at-is s.align at (shape_is s (and_parts _ _ sound).0).aligned).above in
      let b = run_above r (and_parts _ _ sound).1 j q t (tail _ ps s ss j q t k) c in omega arith
  run_above (leave at p s ss ps end e r) sound zero q t k c = absurd (not_both chosen s t (head_at p ps s ss q t k).1 e c)
  run_above (leave at p s ss ps end e r) sound (suc j) q t k c = run_above r (and_parts _ _ sound).1 j q t (tail p ps s ss j q t k) c

  -- of two, the one that is declared first ends before the other begins
  pub run_order : {at : ℕ} {ss : List Shape} {ps : List ℕ} {end : ℕ} → Run chosen at ss ps end → are.are_shapes ss ≡ true → (i j p q : ℕ) (s t : Shape) → i < j
      → Stands ps ss i p s → Stands ps ss j q t → chosen s ≡ true → chosen t ≡ true → p + s.size ≤ q
  run_order (done at) sound i j p q s t lt h k cs ct = absurd (let a = k.at in cc)
  run_order (put at x ss ps end e r) sound zero zero p q s t lt h k cs ct = absurd (omega arith)
  run_order (put at x ss ps end e r) sound (suc i) zero p q s t lt h k cs ct = absurd (omega arith)
  run_order (put at x ss ps end e r) sound zero (suc j) p q s t lt h k cs ct =
      let a = head_at _ ps x ss p s h in
      let z : x.size ≡ s.size = ap (λ y. y.size) a.1 in
      let b = run_above r (and_parts _ _ sound).1 j q t (tail _ ps x ss j q t k) ct in
      let c = a.0 in omega arith
  run_order (put at x ss ps end e r) sound (suc i) (suc j) p q s t lt h k cs ct =
      run_order r (and_parts _ _ sound).1 i j p q s t (omega arith) (tail _ ps x ss i p s h) (tail _ ps x ss j q t k) cs ct
  run_order (leave at o x ss ps end e r) sound i zero p q s t lt h k cs ct = absurd (omega arith)
  run_order (leave at o x ss ps end e r) sound zero (suc j) p q s t lt h k cs ct = absurd (not_both chosen x s (head_at o ps x ss p s h).1 e cs)
  run_order (leave at o x ss ps end e r) sound (suc i) (suc j) p q s t lt h k cs ct =
      run_order r (and_parts _ _ sound).1 i j p q s t (omega arith) (tail o ps x ss i p s h) (tail o ps x ss j q t k) cs ct

  -- no lower place is aligned and behind those that are declared before
  pub run_least : {at : ℕ} {ss : List Shape} {ps : List ℕ} {end : ℕ} → Run chosen at ss ps end → are.are_shapes ss ≡ true → (j q m : ℕ) (t : Shape) → Stands ps ss j q t → chosen t ≡ true
      → at ≤ m → m % t.align ≡ 0 → ((i p : ℕ) (s : Shape) → i < j → Stands ps ss i p s → chosen s ≡ true → p + s.size ≤ m) → q ≤ m
  run_least (done at) sound j q m t k c from aligned past = absurd (let a = k.at in cc)
  run_least (put at x ss ps end e r) sound zero q m t k c from aligned past =
      let a = head_at _ ps x ss q t k in
      let l = (least_at-is x.align at (shape_is x (and_parts _ _ sound).0).aligned).least m from (ap (λ (y : Shape). m % y.align) a.1 ∙ aligned) in
      let b = a.0 in omega arith
  run_least (put at x ss ps end e r) sound (suc j) q m t k c from aligned past =
      run_least r (and_parts _ _ sound).1 j q m t (tail _ ps x ss j q t k) c
      (past zero (least_at x.align at) x (omega arith) (record { at = refl; takes = refl }) e) aligned
      (λ i p s lt h cs. past (suc i) p s (omega arith) (further _ ps x ss i p s h) cs)
  run_least (leave at o x ss ps end e r) sound zero q m t k c from aligned past = absurd (not_both chosen x t (head_at o ps x ss q t k).1 e c)
  run_least (leave at o x ss ps end e r) sound (suc j) q m t k c from aligned past =
      run_least r (and_parts _ _ sound).1 j q m t (tail o ps x ss j q t k) c from aligned
      (λ i p s lt h cs. past (suc i) p s (omega arith) (further o ps x ss i p s h) cs)

  -- the end is no further than it must
  pub run_tight : {at : ℕ} {ss : List Shape} {ps : List ℕ} {end : ℕ} → Run chosen at ss ps end → (m : ℕ) → at ≤ m → ((i p : ℕ) (s : Shape) → Stands ps ss i p s → chosen s ≡ true → p + s.size ≤ m) → end ≤ m
  run_tight (done at) m from past = from
  run_tight (put at x ss ps end e r) m from past =
      run_tight r m (past zero (least_at x.align at) x (record { at = refl; takes = refl }) e)
      (λ i p s h cs. past (suc i) p s (further _ ps x ss i p s h) cs)
  run_tight (leave at o x ss ps end e r) m from past =
      run_tight r m from (λ i p s h cs. past (suc i) p s (further o ps x ss i p s h) cs)

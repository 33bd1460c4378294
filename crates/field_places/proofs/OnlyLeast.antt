-- Whatever stands least is the same.
use Rattle.std.proofs.Common.{◌≡◌, inl, inr, ℕ, zero, suc, ◌+◌, ◌≤◌, ◌<◌, true, List, length, get_or, Some, slice_get, refl, ◌∙◌, sym, arith}
use Rattle.std.proofs.lemmas.Bool.{cases_lt}
use Rattle.std.proofs.lemmas.List.{ext_get_or}
use Rattle.std.proofs.lemmas.Option.{slice_get_within, slice_get-get_or}
use Rattle.field_places.specs.declared.shape.Arrangement.{Arrangement}
use Rattle.field_places.specs.declared.shape.Content.TheVariants.{Plain}
use Rattle.field_places.specs.declared.shape.Shape.{Shape}
use Rattle.field_places.specs.Shapes as are
use Rattle.field_places.specs.Standing.{Stands, StandLeast}
use Rattle.field_places.proofs.Orders.{shape_is}
use Rattle.field_places.proofs.LawfulRanks.{rank_bounds, shape_of_stand}
use Rattle.field_places.proofs.StandingLeast.{Ahead, ahead_from}

module _ (kind : Arrangement) (begin : ℕ) (ss : List Shape) where
  -- a field that stands among some places stands among others
  there : (xs : List ℕ) → length xs ≡ length ss → (i q : ℕ) (s : Shape) → slice_get ss i ≡ Some s → Stands xs ss i (get_or xs i 0) s
  there xs long i q s takes = let low = slice_get_within ss i s takes in record { at = slice_get-get_or xs i 0 (omega arith); takes = takes }

  -- the i-th field has one place
  abbrev Agree : List ℕ → List ℕ → ℕ → Shape → Type 0
  Agree xs ys i s = (p q : ℕ) → Stands xs ss i p s → Stands ys ss i q s → p ≡ q

  low : (xs ys : List ℕ) → StandLeast kind begin ss xs → StandLeast kind begin ss ys → (j : ℕ) (t : Shape) → ((i : ℕ) (s : Shape) → Ahead kind i s j t → Agree xs ys i s)
      → (p q : ℕ) → Stands xs ss j p t → Stands ys ss j q t → q ≤ p
  low xs ys one two j t agree p q x y =
      let f = one.free j p t x in
      two.least j q p t y (record {
        aligned = f.aligned;
        above = f.above;
        behind = λ i o s h before.
            let a = there xs one.as_long i o s h.takes in
            let e = agree i s (ahead_from kind i s j t before) (get_or xs i 0) o a h in
            let b = f.behind i (get_or xs i 0) s a before in omega arith;
      })

  module _ (xs ys : List ℕ) (one : StandLeast kind begin ss xs) (two : StandLeast kind begin ss ys) where
    step : (j : ℕ) (t : Shape) → ((i : ℕ) (s : Shape) → Ahead kind i s j t → Agree xs ys i s) → Agree xs ys j t
    step j t agree p q x y =
        let a = low xs ys one two j t agree p q x y in
        let b = low ys xs two one j t (λ i s ahead o u h k. sym (agree i s ahead u o k h)) q p y x in
        omega arith

    within : (r : ℕ) → ((i : ℕ) (s : Shape) → r < are.rank kind s → Agree xs ys i s) → (n i : ℕ) (s : Shape) → i < n → are.rank kind s ≡ r → Agree xs ys i s
    within r above zero i s lt e = absurd (omega arith)
    within r above (suc n) i s lt e = step i s (λ k u ahead. elim ahead [
      | inl high ↦ above k u (omega arith)
      | inr tied ↦ within r above n k u (let l = tied.1 in omega arith) (tied.0 ∙ e)
    ])

    ranked : are.are_shapes ss ≡ true → (r i : ℕ) (s : Shape) → 9 < are.rank kind s + r → Agree xs ys i s
    ranked sound zero i s high = λ p q x y. absurd (let b = (rank_bounds kind s (shape_is s (shape_of_stand ss xs sound i p s x))).1 in omega arith)
    ranked sound (suc r) i s high = elim (cases_lt 9 (are.rank kind s + r)) [
      | inl lt ↦ ranked sound r i s lt
      | inr ge ↦ within (are.rank kind s) (λ k u above. ranked sound r k u (omega arith)) (suc i) i s (omega arith) refl
    ]

    pub only_least : are.are_shapes ss ≡ true → xs ≡ ys
    only_least sound = ext_get_or 0 xs ys (one.as_long ∙ sym two.as_long) (λ i lt.
        let d : Shape = record { size = 0; align = 1; content = Plain } in
        let s = get_or ss i d in
        let long = one.as_long in
        let takes = slice_get-get_or ss i d (omega arith) in
        let x = there xs one.as_long i 0 s takes in
        let y = there ys two.as_long i 0 s takes in
        let b = (rank_bounds kind s (shape_is s (shape_of_stand ss xs sound i (get_or xs i 0) s x))).0 in
        ranked sound 9 i s (omega arith) (get_or xs i 0) (get_or ys i 0) x y)

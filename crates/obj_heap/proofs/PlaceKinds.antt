-- What bytes are, by the words of the first and of the last.
use Rattle.std.proofs.Common.{◌≡◌, ◌≢◌, ℕ, zero, suc, ◌+◌, ◌-◌, ◌/◌, ◌<◌, ◌≤◌, ◌⊎◌, inl, inr, Bool, true, false, ◌||◌, List, slice_index_or, refl, ap, ◌∙◌, arith}
use Rattle.std.proofs.lemmas.Bool.{cases_eq}
use Rattle.obj_heap.specs.Objects.{is_ref, any_ref}

module _ (refs : List Bool) where
  or_true : (a b : Bool) → b ≡ true → (a || b) ≡ true
  or_true true b h = refl
  or_true false b h = h

  any_last : (at n k : ℕ) → k ≡ at + n → is_ref refs k ≡ true → any_ref refs at (suc n) ≡ true
  any_last at zero k e h = let same : k ≡ at = omega (arith, e) in let there = rw same at h in cc
  any_last at (suc n) k e h = or_true (is_ref refs at) (any_ref refs (suc at) (suc n)) (any_last (suc at) n k (omega (arith, e)) h)

  any_first : (at n : ℕ) → is_ref refs at ≡ true → any_ref refs at (suc n) ≡ true
  any_first at n h = rw h refl

  any_none : (a b at n : ℕ) → is_ref refs a ≡ false → is_ref refs b ≡ false → a ≤ at → at + n ≤ b + 1 → b < a + 8 → any_ref refs at n ≡ false
  any_none a b at zero ha hb low high near = refl
  any_none a b at (suc n) ha hb low high near =
      let here : is_ref refs at ≡ false = go (same (omega (arith, low, high, near))) in
      let more = any_none a b (suc at) n ha hb (omega (arith, low)) (omega (arith, high)) near in
      rw (here, more) refl
    where
      same : (at ≤ b) → (at / 8 ≡ a / 8) ⊎ (at / 8 ≡ b / 8)
      same h = go_on (cases_eq (at / 8) (a / 8))
        where
          go_on : (at / 8 ≡ a / 8) ⊎ (at / 8 ≢ a / 8) → (at / 8 ≡ a / 8) ⊎ (at / 8 ≡ b / 8)
          go_on (inl e) = inl e
          go_on (inr d) = inr (omega (arith, d, h, low, near))

      go : (at / 8 ≡ a / 8) ⊎ (at / 8 ≡ b / 8) → is_ref refs at ≡ false
      go (inl e) = ap (λ k. slice_index_or refs k false) e ∙ ha
      go (inr e) = ap (λ k. slice_index_or refs k false) e ∙ hb

  -- at most eight bytes stand in the words of the first and of the last
  pub any_two : (at width last : ℕ) → 0 < width → width ≤ 8 → last ≡ at + (width - 1) → any_ref refs at width ≡ (is_ref refs at || is_ref refs last)
  any_two at zero last some few e = absurd (omega (arith, some))
  any_two at (suc n) last some few e = go (is_ref refs at) (is_ref refs last) refl refl
    where
      go : (x y : Bool) → is_ref refs at ≡ x → is_ref refs last ≡ y → any_ref refs at (suc n) ≡ (x || y)
      go true y hx hy = any_first at n hx
      go false true hx hy = any_last at n last (omega (arith, e)) hy
      go false false hx hy = any_none at last at (suc n) hx hy (omega arith) (omega (arith, e)) (omega (arith, e, few))

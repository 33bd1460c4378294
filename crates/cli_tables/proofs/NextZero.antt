-- Where the next zero stands, from one place to the next.
use Rattle.std.proofs.Common.{◌≡◌, ℕ, ◌+◌, ◌-◌, ◌<◌, ◌≤◌, inl, inr, Bool, true, false, cond, List, length, drop, get_or, Option, None, Some, refl, sym, ap, ◌∙◌, subst, arith, nat_lt}
use Rattle.std.proofs.lemmas.Bool.{cases_lt, cases_eq, lt-ltb, le-ltb, ltb-false}
use Rattle.std.proofs.lemmas.List.{length-drop, get_or-drop, drop_all}
use Rattle.std.proofs.lemmas.List.Quantifiers.{position-Some}
use Rattle.std.proofs.lemmas.List.Sums.{position_or_len_is, fails_before_first}
use Rattle.std.specs.Option.{option_map}
use Rattle.std.specs.List.{position, position_or_len}
use Rattle.std.specs.Prelude.{◌==◌}
use Rattle.cli_tables.specs.TextFaults.{end_at}

abbrev pub is_zero : ℕ → Bool
is_zero byte = byte == 0

-- from a place on there is no zero before another place
abbrev pub NoZero : List ℕ → ℕ → ℕ → Type 0
NoZero heap at end = (k : ℕ) → at ≤ k → k < end → is_zero (get_or heap k 0) ≡ false

-- the next zero, from a place on
pub record EndsAt (heap : List ℕ) (at end : ℕ) : Type 0 where
  pub behind : at ≤ end
  pub within : end < length heap
  pub here : is_zero (get_or heap end 0) ≡ true
  pub first : NoZero heap at end

at_drop : (heap : List ℕ) (at k : ℕ) (b : Bool) → is_zero (get_or heap (at + k) 0) ≡ b → is_zero (get_or (drop at heap) k 0) ≡ b
at_drop heap at k b e = ap is_zero (get_or-drop at heap k 0) ∙ e

place : (heap : List ℕ) (at n : ℕ) → at + n ≤ length heap → NoZero heap at (at + n) → (at + n < length heap → is_zero (get_or heap (at + n) 0) ≡ true)
    → position_or_len is_zero (drop at heap) ≡ n
place heap at n within first here =
    position_or_len_is is_zero (drop at heap) n 0 (omega (arith, length-drop at heap))
    (λ k less. at_drop heap at k false (first (at + k) (omega arith) (omega arith)))
    (λ less. at_drop heap at n true (here (omega (arith, length-drop at heap))))

pub ends : (heap : List ℕ) (at end : ℕ) → EndsAt heap at end → end_at heap at ≡ Some end
unfolding end_at
ends heap at end e =
    let n = end - at in
    let same : at + n ≡ end = omega (arith, e.behind) in
    let is : position_or_len is_zero (drop at heap) ≡ n =
    place heap at n (omega (arith, e.within)) (λ k low high. e.first k low (omega arith)) (λ less. subst (λ i. is_zero (get_or heap i 0) ≡ true) (sym same) e.here) in
    rw (is, lt-ltb n (length (drop at heap)) (omega (arith, e.within, length-drop at heap))) (ap Some same)

pub no_end : (heap : List ℕ) (at : ℕ) → at ≤ length heap → NoZero heap at (length heap) → end_at heap at ≡ None
unfolding end_at
no_end heap at within none =
    let n = length heap - at in
    let is : position_or_len is_zero (drop at heap) ≡ n =
    place heap at n (omega arith) (λ k low high. none k low (omega arith)) (λ less. absurd (omega arith)) in
    rw (is, le-ltb n (length (drop at heap)) (omega (arith, length-drop at heap))) refl

found : (heap : List ℕ) (at end : ℕ) (r : Option ℕ) → position is_zero (drop at heap) ≡ r → option_map (λ n. at + n) r ≡ Some end → EndsAt heap at end
found heap at end None is e = cc
found heap at end (Some n) is e =
    let same : at + n ≡ end = cc in
    let (less, here, first) = position-Some is_zero (drop at heap) n 0 is in
    subst (EndsAt heap at) same record {
      behind = omega arith;
      within = omega (arith, less, length-drop at heap);
      here = ap is_zero (sym (get_or-drop at heap n 0)) ∙ here;
      first = λ k low high.
          let back : at + (k - at) ≡ k = omega arith in
          subst (λ i. is_zero (get_or heap i 0) ≡ false) back (ap is_zero (sym (get_or-drop at heap (k - at) 0)) ∙ first (k - at) (omega arith));
    }

pub end_found : (heap : List ℕ) (at end : ℕ) → end_at heap at ≡ Some end → EndsAt heap at end
unfolding end_at
end_found heap at end e = found heap at end (position is_zero (drop at heap)) refl e

pub here_zero : (heap : List ℕ) (at : ℕ) → at < length heap → is_zero (get_or heap at 0) ≡ true → end_at heap at ≡ Some at
here_zero heap at within here = ends heap at at record { behind = omega arith; within = within; here = here; first = λ k low high. absurd (omega arith) }

past_none : (xs : List ℕ) (b : Bool) → nat_lt (position_or_len is_zero xs) (length xs) ≡ b → cond b (Some (position_or_len is_zero xs)) None ≡ None → length xs ≤ position_or_len is_zero xs
past_none xs true is e = cc
past_none xs false is e = ltb-false _ _ is

none_mapped : (at : ℕ) (r : Option ℕ) → option_map (λ n. at + n) r ≡ None → r ≡ None
none_mapped at None e = refl
none_mapped at (Some n) e = cc

pub none_found : (heap : List ℕ) (at : ℕ) → end_at heap at ≡ None → NoZero heap at (length heap)
unfolding end_at
none_found heap at e k low high =
    let behind = drop at heap in
    let past = past_none behind (nat_lt (position_or_len is_zero behind) (length behind)) refl (none_mapped at (position is_zero behind) e) in
    let back : at + (k - at) ≡ k = omega arith in
    subst (λ i. is_zero (get_or heap i 0) ≡ false) back
    (ap is_zero (sym (get_or-drop at heap (k - at) 0)) ∙ fails_before_first is_zero behind (k - at) 0 (omega (arith, past, length-drop at heap)))

-- one more byte that is no zero
more : (heap : List ℕ) (at end : ℕ) → is_zero (get_or heap at 0) ≡ false → NoZero heap (at + 1) end → NoZero heap at end
more heap at end here behind k low high = elim (cases_eq k at) [
  | inl same ↦ subst (λ i. is_zero (get_or heap i 0) ≡ false) (sym same) here
  | inr other ↦ behind k (above k at low other) high
]
  where
    above : (k at : ℕ) → at ≤ k → (k ≡ at → ⊥) → at + 1 ≤ k
    above k at low other = elim (cases_lt at k) [ inl less ↦ omega arith | inr up ↦ absurd (other (omega arith)) ]

pub here_other : (heap : List ℕ) (at : ℕ) → at < length heap → is_zero (get_or heap at 0) ≡ false → (r : Option ℕ) → end_at heap (at + 1) ≡ r → r ≡ end_at heap at
here_other heap at within here None e = sym (no_end heap at (omega arith) (more heap at (length heap) here (none_found heap (at + 1) e)))
here_other heap at within here (Some end) e =
    let f = end_found heap (at + 1) end e in
    sym (ends heap at end record { behind = omega (arith, f.behind); within = f.within; here = f.here; first = more heap at end here f.first })

pub no_end_past : (heap : List ℕ) (at : ℕ) → length heap ≤ at → end_at heap at ≡ None
unfolding end_at
no_end_past heap at outside = ap (λ xs. option_map (λ n. at + n) (position is_zero xs)) (drop_all at heap outside)

pub strictly : (heap : List ℕ) (at end : ℕ) → end_at heap at ≡ Some end → (end ≡ at → ⊥) → at < end
strictly heap at end e other =
    let f = end_found heap at end e in
    elim (cases_lt at end) [ inl less ↦ less | inr more ↦ absurd (other (omega (arith, f.behind))) ]

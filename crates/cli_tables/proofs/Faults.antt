-- What is wrong with a text, from the texts behind it.
use Rattle.std.proofs.Common.{◌≡◌, ℕ, ◌+◌, ◌-◌, ◌<◌, ◌≤◌, Bool, true, false, cond, List, [], length, take, drop, get_or, set, Option, None, Some, Ok, Err, refl, sym, ap, ◌∙◌, arith, slice_range, inl, inr}
use Rattle.std.proofs.lemmas.Bool.{cases_lt, cases_eq, eq-eqb, ne_eqb}
use Rattle.std.proofs.lemmas.List.{drop-take, drop-drop, get_or-set_same, get_or-set_other}
use Rattle.std.proofs.Math.ListN.{get_or-eq_default}
use Rattle.std.specs.Option.{option_map}
use Rattle.std.specs.List.{position}
use Rattle.std.specs.Str.{IsUtf8, is_utf8}
use Rattle.std.proofs.lemmas.Str.{IsUtf8-nil, is_utf8-from_IsUtf8}
use Rattle.clr_base.specs.declared.image_fault.FaultKind.{FaultKind}
use Rattle.clr_base.specs.declared.image_fault.FaultKind.TheVariants.{BadIndex, BadText}
use Rattle.cli_tables.specs.Heaps.{text_at, text_of}
use Rattle.cli_tables.specs.TextFaults.{end_at, bytes_fault, fault_up_to, fault_from, fault_of, text_fault, AreFaultsFrom, AreTextFaults}
use Rattle.cli_tables.proofs.Characters.{as_the_rest, bad}
use Rattle.cli_tables.proofs.NextZero.{is_zero, ends, no_end_past, end_found}

pub up_to : (heap : List ℕ) (at end : ℕ) → end_at heap at ≡ Some end → fault_from heap at ≡ bytes_fault (slice_range heap at end)
unfolding fault_from
up_to heap at end e = ap (fault_up_to heap at) e

rest_of : (heap : List ℕ) (at n end : ℕ) → at + n ≤ end → drop n (slice_range heap at end) ≡ slice_range heap (at + n) end
rest_of heap at n end within =
    let m = end - (at + n) in
    let long : end - at ≡ n + m = omega arith in
    ap (λ k. drop n (take k (drop at heap))) long ∙ drop-take n m (drop at heap) ∙ ap (take m) (drop-drop n at heap)

-- behind some first bytes that are a text, the rest decides
pub as_behind : (heap : List ℕ) (at n end : ℕ) → end_at heap at ≡ Some end → n ≤ end - at → n ≤ length (slice_range heap at end) → at ≤ end
    → IsUtf8 (take n (slice_range heap at end)) → fault_from heap (at + n) ≡ fault_from heap at
as_behind heap at n end e within fits order text =
    let found = end_found heap at end e in
    let behind : end_at heap (at + n) ≡ Some end =
    ends heap (at + n) end record { behind = omega arith; within = found.within; here = found.here; first = λ k low high. found.first k (omega arith) high } in
    up_to heap (at + n) end behind ∙ ap bytes_fault (sym (rest_of heap at n end (omega arith))) ∙ sym (as_the_rest (slice_range heap at end) n fits text) ∙ sym (up_to heap at end e)

-- bytes that no character begins
pub bad_here : (heap : List ℕ) (at end : ℕ) → end_at heap at ≡ Some end → ¬ (IsUtf8 (slice_range heap at end)) → Some BadText ≡ fault_from heap at
bad_here heap at end e never = sym (up_to heap at end e ∙ bad (slice_range heap at end) never)

pub no_zero : (heap : List ℕ) (at : ℕ) → end_at heap at ≡ None → Some BadIndex ≡ fault_from heap at
unfolding fault_from
no_zero heap at e = sym (ap (fault_up_to heap at) e)

pub empty_here : (heap : List ℕ) (at end : ℕ) → end_at heap at ≡ Some end → end ≡ at → None ≡ fault_from heap at
empty_here heap at end e same =
    let none : end - at ≡ 0 = omega arith in
    sym (up_to heap at end e ∙ ap (λ n. bytes_fault (take n (drop at heap))) none ∙ ap (λ b. cond b None (Some BadText)) (is_utf8-from_IsUtf8 [] IsUtf8-nil))

-- one more fault, at the place before
pub one_more : (heap : List ℕ) (at : ℕ) (faults : List (Option FaultKind)) (f : Option FaultKind) → at < length heap → length faults ≡ length heap
    → AreFaultsFrom heap (at + 1) faults → f ≡ fault_from heap at → AreFaultsFrom heap at (set faults at f)
one_more heap at faults f within long known is i d low high = elim (cases_eq i at) [
  | inl same ↦ ap (λ k. get_or (set faults at f) k d) same ∙ get_or-set_same faults at f d (omega (arith, long)) ∙ is ∙ ap (fault_from heap) (sym same)
  | inr other ↦ get_or-set_other faults at i f d other ∙ known i d (above i at low other) high
]
  where
    above : (k at : ℕ) → at ≤ k → (k ≡ at → ⊥) → at + 1 ≤ k
    above k at low other = elim (cases_lt at k) [ inl less ↦ omega arith | inr up ↦ absurd (other (omega arith)) ]

same_fault : (bytes : List ℕ) (b : Bool) → is_utf8 bytes ≡ b → cond b None (Some BadText) ≡ fault_of (cond b (Ok bytes) (Err BadText))
same_fault bytes true e = refl
same_fault bytes false e = refl

by_position : (heap : List ℕ) (at : ℕ) (r : Option ℕ) → fault_up_to heap at (option_map (λ n. at + n) r) ≡ fault_of (text_of (option_map (λ n. take n (drop at heap)) r))
by_position heap at None = refl
by_position heap at (Some n) =
    let long : at + n - at ≡ n = omega arith in
    ap (λ k. bytes_fault (take k (drop at heap))) long ∙ same_fault (take n (drop at heap)) (is_utf8 (take n (drop at heap))) refl

pub as_text : (heap : List ℕ) (index : ℕ) → (index ≡ 0 → ⊥) → fault_from heap index ≡ text_fault heap index
unfolding fault_from end_at text_at
as_text heap index some = rw (ne_eqb index 0 some) (by_position heap index (position is_zero (drop index heap)))

pub at_zero : (heap : List ℕ) → text_fault heap 0 ≡ None
unfolding text_at
at_zero heap = ap (λ b. fault_of {X = List ℕ} (cond b (Ok []) (Err BadText))) (is_utf8-from_IsUtf8 [] IsUtf8-nil)

pub past : (heap : List ℕ) (index : ℕ) → length heap ≤ index → (index ≡ 0 → ⊥) → Some BadIndex ≡ text_fault heap index
past heap index outside some = no_zero heap index (no_end_past heap index outside) ∙ as_text heap index some

-- all places from the first on are the whole answer
pub all_known : (heap : List ℕ) (faults : List (Option FaultKind)) → length faults ≡ length heap → AreFaultsFrom heap 0 faults → AreTextFaults heap faults
all_known heap faults long known index = elim (cases_eq index 0) [
  | inl none ↦ rw (eq-eqb index 0 none) (sym (at_zero heap) ∙ ap (text_fault heap) (sym none))
  | inr some ↦ rw (ne_eqb index 0 some) (elim (cases_lt index (length heap)) [
    | inl within ↦ known index (Some BadIndex) (omega arith) within ∙ as_text heap index some
    | inr outside ↦ get_or-eq_default faults (Some BadIndex) (omega (arith, long)) ∙ past heap index outside some
  ])
]

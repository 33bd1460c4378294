-- A heap that is all ASCII: only a text that no zero ends is wrong.
use Rattle.std.proofs.Common.{◌≡◌, ◌≢◌, ℕ, ◌-◌, ◌<◌, ◌≤◌, cond, List, length, drop, get_or, replicate, Option, None, Some, refl, sym, ap, ◌∙◌, arith, slice_range, inl, inr}
use Rattle.std.proofs.lemmas.Bool.{cases_lt, cases_eq, eq-eqb, ne_eqb, true≢false}
use Rattle.std.proofs.lemmas.List.{get_or-replicate, length-replicate}
use Rattle.std.proofs.Math.ListN.{get_or-eq_default}
use Rattle.std.proofs.lemmas.Str.{IsAscii-drop, IsAscii-take, IsUtf8-from_ascii, is_utf8-from_IsUtf8}
use Rattle.std.specs.Str.{IsAscii}
use Rattle.clr_base.specs.declared.image_fault.FaultKind.{FaultKind}
use Rattle.clr_base.specs.declared.image_fault.FaultKind.TheVariants.{BadIndex, BadText}
use Rattle.cli_tables.specs.TextFaults.{end_at, fault_from, text_fault, ReachLastZero, AreTextFaults}
use Rattle.cli_tables.proofs.Faults.{up_to, no_zero, as_text, at_zero, past}
use Rattle.cli_tables.proofs.NextZero.{no_end, none_found}

-- a text of ASCII that a zero ends
ended : (heap : List ℕ) (at end : ℕ) → IsAscii heap → end_at heap at ≡ Some end → None ≡ fault_from heap at
ended heap at end all e =
    let text = IsUtf8-from_ascii (slice_range heap at end) (IsAscii-take (drop at heap) (end - at) (IsAscii-drop heap at all)) in
    sym (up_to heap at end e ∙ ap (λ b. cond b None (Some BadText)) (is_utf8-from_IsUtf8 (slice_range heap at end) text))

-- at or before a zero, a zero ends each text
before : (heap : List ℕ) (at last : ℕ) → IsAscii heap → at ≤ last → last < length heap → get_or heap last 0 ≡ 0
    → (r : Option ℕ) → end_at heap at ≡ r → None ≡ fault_from heap at
before heap at last all order within here None e =
    absurd (true≢false (sym (eq-eqb (get_or heap last 0) 0 here) ∙ none_found heap at e last order within))
before heap at last all order within here (Some end) e = ended heap at end all e

behind : (heap : List ℕ) (n at : ℕ) → ReachLastZero heap n → n ≤ at → at < length heap → Some BadIndex ≡ fault_from heap at
behind heap n at last order within =
    no_zero heap at (no_end heap at (omega arith) (λ k low high. ne_eqb (get_or heap k 0) 0 (last.2 k (omega arith) high)))

looked : (heap : List ℕ) (n index : ℕ) → IsAscii heap → ReachLastZero heap n → index ≢ 0 → get_or (replicate n None) index (Some BadIndex) ≡ text_fault heap index
looked heap n index all last some = elim (cases_lt index n) [
  | inl less ↦ get_or-replicate n index None (Some BadIndex) less
      ∙ before heap index (n - 1) all (omega arith) (omega (arith, last.0)) (last.1 (omega arith)) (end_at heap index) refl
      ∙ as_text heap index some
  | inr more ↦ get_or-eq_default (replicate n None) (Some BadIndex) (omega (arith, length-replicate {A = Option FaultKind} n None)) ∙ (elim (cases_lt index (length heap)) [
    | inl within ↦ behind heap n index last more within ∙ as_text heap index some
    | inr outside ↦ past heap index outside some
  ])
]

-- the length up to the last zero tells all that is wrong
pub all_ascii : (heap : List ℕ) (n : ℕ) → IsAscii heap → ReachLastZero heap n → AreTextFaults heap (replicate n None)
all_ascii heap n all last index = elim (cases_eq index 0) [
  | inl none ↦ rw (eq-eqb index 0 none) (sym (at_zero heap) ∙ ap (text_fault heap) (sym none))
  | inr some ↦ rw (ne_eqb index 0 some) (looked heap n index all last some)
]

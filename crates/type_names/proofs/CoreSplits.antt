-- The full names of the core's types are split at their last dots.
use Rattle.std.proofs.Common.{◌≡◌, ℕ, ◌+◌, ◌<◌, Bool, true, false, List, drop, length, get_or, codes, eqb, refl, sym, ap, subst, ◌∙◌, arith}
use Rattle.std.specs.Prelude.{◌&&◌, ◌==◌, nat_lt, if◌then◌else◌}
use Rattle.std.specs.Str.{bytes_eq, IsCharBoundary, IsUtf8}
use Rattle.std.proofs.lemmas.Bool.{and_parts, eqb-true, ltb-true}
use Rattle.std.proofs.lemmas.Slice.Eq.{bytes_eq-Decides}
use Rattle.std.proofs.lemmas.Str.{IsCharBoundary-after_ascii}
use Rattle.core_types.specs.CoreTable.{text, def_text}
use Rattle.type_names.specs.Resolution.{core_namespace, core_type_name}
use Rattle.clr_base.proofs.Ranges.{all_below, below}

-- the namespaces
abbrev in_namespace : ℕ → List ℕ
in_namespace k = if k == 25 then codes "System.Collections.Generic" else codes "System"

all_within : all_below (λ k. bytes_eq (in_namespace k) (core_namespace k)) 36 ≡ true
unfolding text def_text core_namespace
all_within = refl

within : (k : ℕ) → k < 36 → in_namespace k ≡ core_namespace k
within k few = (bytes_eq-Decides (in_namespace k) (core_namespace k)).0 (below (λ k. bytes_eq (in_namespace k) (core_namespace k)) 36 k all_within few)

pub generic : (k : ℕ) → k < 36 → eqb k 25 ≡ true → codes "System.Collections.Generic" ≡ core_namespace k
generic k few is = sym (ap (λ (b : Bool). if b then codes "System.Collections.Generic" else codes "System") is) ∙ within k few

pub plain : (k : ℕ) → k < 36 → eqb k 25 ≡ false → codes "System" ≡ core_namespace k
plain k few is = sym (ap (λ (b : Bool). if b then codes "System.Collections.Generic" else codes "System") is) ∙ within k few

-- a dot stands behind it, and then the name
abbrev is_split : ℕ → Bool
is_split k =
    nat_lt (length (core_namespace k)) (length (text k))
    && (get_or (text k) (length (core_namespace k)) 0 == 46 && bytes_eq (drop (length (core_namespace k) + 1) (text k)) (core_type_name k))

all_split : all_below is_split 36 ≡ true
unfolding text def_text core_namespace core_type_name
all_split = refl

module _ (k start : ℕ) (namespace full : List ℕ) (few : k < 36) (is : namespace ≡ core_namespace k) (whole : full ≡ text k) (behind : start ≡ length namespace + 1) where
  at_start : start ≡ length (core_namespace k) + 1
  at_start = behind ∙ ap (λ (t : List ℕ). length t + 1) is

  parts : (nat_lt (length (core_namespace k)) (length (text k)) ≡ true)
      × ((get_or (text k) (length (core_namespace k)) 0 == 46 && bytes_eq (drop (length (core_namespace k) + 1) (text k)) (core_type_name k)) ≡ true)
  parts =
      and_parts (nat_lt (length (core_namespace k)) (length (text k)))
      (get_or (text k) (length (core_namespace k)) 0 == 46 && bytes_eq (drop (length (core_namespace k) + 1) (text k)) (core_type_name k))
      (below is_split 36 k all_split few)

  behind_dot : ((get_or (text k) (length (core_namespace k)) 0 == 46) ≡ true) × (bytes_eq (drop (length (core_namespace k) + 1) (text k)) (core_type_name k) ≡ true)
  behind_dot =
      and_parts (get_or (text k) (length (core_namespace k)) 0 == 46) (bytes_eq (drop (length (core_namespace k) + 1) (text k)) (core_type_name k)) parts.1

  pub name_begins : IsUtf8 full → IsCharBoundary full start
  name_begins utf8 =
      let inside : length (core_namespace k) < length (text k) = ltb-true (length (core_namespace k)) (length (text k)) parts.0 in
      let long : length full ≡ length (text k) = ap length whole in
      let here : get_or full (length (core_namespace k)) 0 ≡ 46 =
      ap (λ (t : List ℕ). get_or t (length (core_namespace k)) 0) whole ∙ eqb-true (get_or (text k) (length (core_namespace k)) 0) 46 behind_dot.0 in
      subst (IsCharBoundary full) (sym at_start)
      (IsCharBoundary-after_ascii full (length (core_namespace k)) utf8 (omega (arith, inside, long)) (omega (arith, here)))

  pub name_behind : drop start full ≡ core_type_name k
  name_behind =
      ap (λ (n : ℕ). drop n full) at_start ∙ ap (drop (length (core_namespace k) + 1)) whole
      ∙ (bytes_eq-Decides (drop (length (core_namespace k) + 1) (text k)) (core_type_name k)).0 behind_dot.1

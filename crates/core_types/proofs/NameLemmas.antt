-- Strings and their texts.
use Rattle.std.proofs.Common.{◌≡◌, ℕ, ◌+◌, ◌≤◌, arith, Bool, true, false, ◌||◌, List, [], ◌∷◌, ◌++◌, map, length, Some, None, refl, sym, ap, ◌∙◌, cond, if◌then◌else◌}
use Rattle.std.specs.Prelude.{String, string_bytes, not, nat_lt}
use Rattle.std.specs.String.{string_eq}
use Rattle.std.specs.List.{list_any, position, position_or_len}
use Rattle.std.specs.Str.{bytes_eq}
use Rattle.std.proofs.lemmas.Bool.{ltb-false}
use Rattle.std.proofs.lemmas.List.{map-append}
use Rattle.std.proofs.lemmas.List.Sums.{prefix_len-le-length}
use Rattle.indexmap.specs.IndexSet.{insert_key}
use Rattle.core_types.specs.Names.{with_one, number_in}

at_place : (b : Bool) (n i : ℕ) → Some i ≡ cond b (Some n) None → i ≡ n
at_place true n i e = cc
at_place false n i e = absurd cc

past_all : (b : Bool) (i : ℕ) → None ≡ cond b (Some i) None → b ≡ false
past_all true i e = absurd cc
past_all false i e = refl

module _ {Z : Type 0} where
  -- whether a string has a text
  abbrev pub is_text : List ℕ → String Z → Bool
  is_text t k = bytes_eq t (string_bytes k)

  -- a text is among the strings where it is among their texts, and has the same place
  pub is_among : (t : List ℕ) (ks : List (String Z)) → list_any (is_text t) ks ≡ list_any (bytes_eq t) (map string_bytes ks)
  is_among t [] = refl
  is_among t (k ∷ ks) = ap (λ (b : Bool). is_text t k || b) (is_among t ks)

  pub placed : (t : List ℕ) (ks : List (String Z)) → position_or_len (is_text t) ks ≡ number_in (map string_bytes ks) t
  placed t [] = refl
  placed t (k ∷ ks) = ap (λ (n : ℕ). cond (not (is_text t k)) (1 + n) 0) (placed t ks)

  pub found : (t : List ℕ) (ks : List (String Z)) (i : ℕ) → Some i ≡ position (is_text t) ks → i ≡ number_in (map string_bytes ks) t
  found t ks i e =
      at_place (nat_lt (position_or_len (is_text t) ks) (length ks)) (position_or_len (is_text t) ks) i e ∙ placed t ks

  -- where a text isn't there, it has the number of the next one
  pub absent : (t : List ℕ) (ks : List (String Z)) (n : ℕ) → None ≡ position (is_text t) ks → n ≡ length ks → n ≡ number_in (map string_bytes ks) t
  absent t ks n none is =
      let at : ℕ = position_or_len (is_text t) ks in
      let past : length ks ≤ at = ltb-false at (length ks) (past_all (nat_lt at (length ks)) at none) in
      let within : at ≤ length ks = prefix_len-le-length (λ k. not (is_text t k)) ks in
      let last : n ≡ at = omega arith in
      last ∙ placed t ks

  chosen : (b : Bool) (ks : List (String Z)) (k : String Z)
      → map string_bytes (if b then ks else ks ++ k ∷ []) ≡ (if b then map string_bytes ks else map string_bytes ks ++ string_bytes k ∷ [])
  chosen true ks k = refl
  chosen false ks k = map-append string_bytes ks (k ∷ [])

  -- a string is kept as its text is
  pub kept : (ks : List (String Z)) (k : String Z) → map string_bytes (insert_key string_eq ks k) ≡ with_one bytes_eq (map string_bytes ks) (string_bytes k)
  kept ks k =
      chosen (list_any (is_text (string_bytes k)) ks) ks k
      ∙ ap (λ (b : Bool). if b then map string_bytes ks else map string_bytes ks ++ string_bytes k ∷ []) (is_among (string_bytes k) ks)

-- a text that is there isn't added
pub not_added : (names : List (List ℕ)) (t : List ℕ) → list_any (bytes_eq t) names ≡ true → names ≡ with_one bytes_eq names t
not_added names t among = sym (ap (λ (b : Bool). if b then names else names ++ t ∷ []) among)

-- Words of items, one each.
use Rattle.std.proofs.Common.{◌≡◌, ℕ, zero, suc, ◌<◌, List, [], ◌∷◌, ◌++◌, map, length, get_or, Some, refl, ap, ◌∙◌, arith}
use Rattle.std.specs.List.{All}
use Rattle.std.proofs.lemmas.List.{map_push}
use Rattle.std.proofs.lemmas.List.Elements.{All-nil, All-cons, All-head, All-tail, All-push}
use Rattle.clr_base.specs.declared.ids.Handle.{Handle}
use Rattle.type_record.specs.declared.entry.Entry.{Entry}
use Rattle.type_record.specs.TheOne.{IsTheOne}
use Rattle.type_record.specs.Words.{word_of}
use Rattle.type_record.specs.Sections.{AreWords}

-- the last item, and those before it
pub record Ends {X : Type 0} (fits : X → Type 0) (word : X → ℕ) (ws : List ℕ) (w : ℕ) (xs : List X) : Type 0 where
  pub front : List X
  pub last : X
  pub are : xs ≡ front ++ last ∷ []
  pub front_fits : All fits front
  pub last_fits : fits last
  pub front_words : map word front ≡ ws
  pub last_word : word last ≡ w

module _ {X : Type 0} (fits : X → Type 0) (word : X → ℕ) where
  ends_of : (ws : List ℕ) (w : ℕ) (xs : List X) → All fits xs → map word xs ≡ ws ++ w ∷ [] → Ends fits word ws w xs
  ends_of [] w [] all e = absurd cc
  ends_of [] w (x ∷ []) all e = record { front = []; last = x; are = refl; front_fits = All-nil fits; last_fits = All-head fits x [] all; front_words = refl; last_word = cc }
  ends_of [] w (x ∷ y ∷ xs) all e = absurd cc
  ends_of (v ∷ ws) w [] all e = absurd cc
  ends_of (v ∷ ws) w (x ∷ xs) all e =
      let here : word x ≡ v = cc in
      let behind : map word xs ≡ ws ++ w ∷ [] = cc in
      let rest = ends_of ws w xs (All-tail fits x xs all) behind in
      record {
        front = x ∷ rest.front;
        last = rest.last;
        are = ap (λ ys. x ∷ ys) rest.are;
        front_fits = All-cons fits x rest.front (All-head fits x xs all) rest.front_fits;
        last_fits = rest.last_fits;
        front_words = let behind_front = rest.front_words in cc;
        last_word = rest.last_word;
      }

module _ {X : Type 0} (fits : X → Type 0) (told : X → Entry Handle) where
  only_empty : (xs : List X) → AreWords fits told [] xs → xs ≡ []
  only_empty [] are = refl
  only_empty (x ∷ xs) are = absurd (let e = are.1 in cc)

  pub none_read : IsTheOne (AreWords fits told []) (Some [])
  none_read = ((All-nil fits, refl), only_empty)

  pub one_more : (ws : List ℕ) (w : ℕ) (ys : List X) (y : X) → IsTheOne (AreWords fits told ws) (Some ys)
      → IsTheOne (λ x. fits x × (word_of (told x) ≡ w)) (Some y) → IsTheOne (AreWords fits told (ws ++ w ∷ [])) (Some (ys ++ y ∷ []))
  one_more ws w ys y before here =
      let words : map (λ x. word_of (told x)) (ys ++ y ∷ []) ≡ ws ++ w ∷ [] =
      map_push (λ x. word_of (told x)) ys y ∙ ap (λ vs. vs ++ word_of (told y) ∷ []) before.0.1 ∙ ap (λ v. ws ++ v ∷ []) here.0.1 in (
        (All-push fits ys y before.0.0 here.0.0, words),
        λ xs are.
            let ends = ends_of fits (λ x. word_of (told x)) ws w xs are.0 are.1 in
            let front_is : ends.front ≡ ys = before.1 ends.front (ends.front_fits, ends.front_words) in
            let last_is : ends.last ≡ y = here.1 ends.last (ends.last_fits, ends.last_word) in
            ends.are ∙ ap (λ vs. vs ++ ends.last ∷ []) front_is ∙ ap (λ v. ys ++ v ∷ []) last_is,
      )

  pub none_at : (words : List ℕ) (i : ℕ) → i < length words → ((x : X) → fits x × (word_of (told x) ≡ get_or words i 0) → ⊥) → (xs : List X) → AreWords fits told words xs → ⊥
  none_at [] i low none xs are = absurd (omega arith)
  none_at (w ∷ ws) i low none [] are = let e = are.1 in cc
  none_at (w ∷ ws) zero low none (x ∷ xs) are =
      let e = are.1 in
      let one : word_of (told x) ≡ w = cc in
      none x (All-head fits x xs are.0, one)
  none_at (w ∷ ws) (suc i) low none (x ∷ xs) are =
      let e = are.1 in
      let behind : map (λ x. word_of (told x)) xs ≡ ws = cc in
      none_at ws i (omega arith) none xs (All-tail fits x xs are.0, behind)

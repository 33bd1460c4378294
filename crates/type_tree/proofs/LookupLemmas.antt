-- The first place that passes a test.
use Rattle.std.proofs.Common.{◌≡◌, ℕ, zero, suc, ◌+◌, ◌≤◌, Bool, true, false, cond, List, [], ◌∷◌, length, drop, Option, Some, None, option_map, slice_get, refl, ap, ◌∙◌, subst, arith}
use Rattle.std.proofs.lemmas.Bool.{and_parts}
use Rattle.std.proofs.lemmas.List.{drop_all}
use Rattle.std.proofs.lemmas.Slice.Eq.{bytes_eq-Decides}
use Rattle.std.specs.List.{position_from}
use Rattle.std.specs.Option.{option_or}
use Rattle.std.specs.Str.{bytes_eq}
use Rattle.clr_base.specs.declared.ids.DefId.{DefId}
use Rattle.type_tree.specs.declared.lookup.Place.{Place}
use Rattle.type_tree.specs.declared.lookup.Place.TheVariants.{Files, Core}
use Rattle.type_tree.specs.World.{Facts}
use Rattle.type_tree.specs.Lookup.{name_text, name_of, full_name, is_in, is_named, first_in, def_id, first_named}

drop_at : {X : Type 0} (xs : List X) (n : ℕ) (x : X) → slice_get xs n ≡ Some x → drop n xs ≡ x ∷ drop (suc n) xs
drop_at [] n x e = absurd (cc)
drop_at (y ∷ xs) zero x e = let same : y ≡ x = cc in ap (λ z. z ∷ xs) same
drop_at (y ∷ xs) (suc n) x e = drop_at xs n x e

pub stops_at : {X : Type 0} (p : X → Bool) (xs : List X) (n : ℕ) (x : X) → slice_get xs n ≡ Some x → p x ≡ true → position_from p n (drop n xs) ≡ Some n
stops_at p xs n x e h = ap (position_from p n) (drop_at xs n x e) ∙ ap (λ b. cond b (Some n) (position_from p (n + 1) (drop (suc n) xs))) h

pub passes_over : {X : Type 0} (p : X → Bool) (xs : List X) (n : ℕ) (x : X) → slice_get xs n ≡ Some x → p x ≡ false → position_from p n (drop n xs) ≡ position_from p (n + 1) (drop (n + 1) xs)
passes_over p xs n x e h =
    let next : suc n ≡ n + 1 = omega arith in
    ap (position_from p n) (drop_at xs n x e) ∙ ap (λ b. cond b (Some n) (position_from p (n + 1) (drop (suc n) xs))) h
    ∙ ap (λ k. position_from p (n + 1) (drop k xs)) next

pub nothing_left : {X : Type 0} (p : X → Bool) (xs : List X) (n : ℕ) → length xs ≤ n → position_from p n (drop n xs) ≡ None
nothing_left p xs n le = ap (position_from p n) (drop_all n xs le)

-- what stands at the place that is found
record IsAt {X : Type 0} (p : X → Bool) (xs : List X) (start place : ℕ) : Type 0 where
  offset : ℕ
  item : X
  is : place ≡ start + offset
  there : slice_get xs offset ≡ Some item
  passes : p item ≡ true

found_at : {X : Type 0} (p : X → Bool) (xs : List X) (start place : ℕ) → position_from p start xs ≡ Some place → IsAt p xs start place
found_at p [] start place e = absurd (cc)
found_at {X = X} p (x ∷ xs) start place e = go (p x) refl e (λ f. found_at p xs (start + 1) place f)
  where
    go : (b : Bool) → p x ≡ b → cond b (Some start) (position_from p (start + 1) xs) ≡ Some place → (position_from p (start + 1) xs ≡ Some place → IsAt p xs (start + 1) place) → IsAt p (x ∷ xs) start place
    go true h f later = let same : start ≡ place = cc in record { offset = 0; item = x; is = omega (arith, same); there = refl; passes = h }
    go false h f later = let at = later f in record { offset = suc at.offset; item = at.item; is = omega (arith, at.is); there = at.there; passes = at.passes }

module _ (w : Facts) where
  -- a definition that is found has the name that it was looked up by
  found_in : (place : Place) (name : List ℕ) (n : ℕ) → first_in w place name ≡ Some n → full_name w (def_id n) ≡ name
  unfolding full_name
  found_in place name n e =
      let at = found_at (is_named w place name) w.defs 0 n e in
      let same : n ≡ at.offset = omega (arith, at.is) in
      ap (λ k. name_of w (slice_get w.defs k)) same ∙ ap (name_of w) at.there
      ∙ (bytes_eq-Decides (name_text w at.item.name) name).0 (and_parts (is_in place at.item) (bytes_eq (name_text w at.item.name) name) at.passes).1

  pub first_named-name : (name : List ℕ) (d : DefId) → first_named w name ≡ Some d → full_name w d ≡ name
  unfolding first_named
  first_named-name name d e = go (first_in w Files name) (first_in w Core name) refl refl e
    where
      go : (f c : Option ℕ) → first_in w Files name ≡ f → first_in w Core name ≡ c → option_map def_id (option_or f c) ≡ Some d → full_name w d ≡ name
      go (Some n) c p q h = let same : def_id n ≡ d = cc in subst (λ x. full_name w x ≡ name) same (found_in Files name n p)
      go None (Some n) p q h = let same : def_id n ≡ d = cc in subst (λ x. full_name w x ≡ name) same (found_in Core name n q)
      go None None p q h = absurd (cc)

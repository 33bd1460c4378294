-- One more method takes its number.
use Rattle.std.proofs.Common.{◌≡◌, ℕ, suc, ◌≤◌, nat_eq, cond, List, [], ◌∷◌, ◌++◌, Option, None, Some, append_assoc, ap, refl, ◌∙◌, sym, map, filter, length, unwrap_or, length-append, arith}
use Rattle.std.specs.Option.{is_none}
use Rattle.method_slots.specs.declared.numbers.Virtual.{Virtual}
use Rattle.method_slots.specs.Numbers.{last_place, numbers_from, opens}
use Rattle.method_slots.specs.Virtuals.{key_of, is_virtual, is_new}

module _ (inherited : List ℕ) where
  abbrev pub from_free : ℕ → List (Option Virtual) → List (Option ℕ)
  from_free = numbers_from nat_eq key_of is_virtual is_new inherited

  abbrev pub home : Virtual → Option ℕ
  home m = cond m.newslot None (last_place (nat_eq m.key) inherited)

  -- the slots that methods open
  abbrev pub opening : List (Option Virtual) → List ℕ
  opening ms = map key_of (filter (opens nat_eq key_of is_virtual is_new inherited) ms)

  -- the slots after a method that overrides this one, or opens one
  abbrev pub keys_with : List ℕ → ℕ → Option ℕ → List ℕ
  keys_with keys key found = elim found [ Some n ↦ keys | None ↦ keys ++ key ∷ [] ]

  -- what is known after some methods: the numbers still to come, and the slots
  pub record Left (done : List (Option ℕ)) (keys : List ℕ) (ms : List (Option Virtual)) (goal : List (Option ℕ)) (all : List ℕ) : Type 0 where
    pub made : done ++ from_free (length keys) ms ≡ goal
    pub opened : keys ++ opening ms ≡ all

  abbrev after : List ℕ → List (Option Virtual) → Option ℕ → List (Option ℕ)
  after keys ms found = elim found [ Some n ↦ Some n ∷ from_free (length keys) ms | None ↦ Some (length keys) ∷ from_free (suc (length keys)) ms ]

  given : (keys : List ℕ) (key : ℕ) (ms : List (Option Virtual)) (found : Option ℕ)
      → after keys ms found ≡ Some (unwrap_or found (length keys)) ∷ from_free (length (keys_with keys key found)) ms
  given keys key ms (Some n) = refl
  given keys key ms None = let e : length (keys ++ key ∷ []) ≡ suc (length keys) = simp length-append (omega arith) in ap (λ n. Some (length keys) ∷ from_free n ms) (sym e)

  abbrev still : Virtual → List (Option Virtual) → Option ℕ → List ℕ
  still v fs found = map key_of (cond (is_none found) (Some v ∷ fs) fs)

  opens_by : (keys : List ℕ) (v : Virtual) (fs : List (Option Virtual)) (found : Option ℕ) → keys_with keys v.key found ++ map key_of fs ≡ keys ++ still v fs found
  opens_by keys v fs (Some n) = refl
  opens_by keys v fs None = append_assoc keys (v.key ∷ []) (map key_of fs)

  pub virtual_left : (done : List (Option ℕ)) (keys : List ℕ) (v : Virtual) (ms : List (Option Virtual)) (goal : List (Option ℕ)) (all : List ℕ) (found : Option ℕ) → found ≡ home v
      → Left done keys (Some v ∷ ms) goal all → Left (done ++ Some (unwrap_or found (length keys)) ∷ []) (keys_with keys v.key found) ms goal all
  virtual_left done keys v ms goal all found e was = record {
    made = append_assoc done (Some (unwrap_or found (length keys)) ∷ []) (from_free (length (keys_with keys v.key found)) ms) ∙ ap (λ l. done ++ l) (sym (given keys v.key ms found) ∙ ap (after keys ms) e) ∙ was.made;
    opened = let fs = filter (opens nat_eq key_of is_virtual is_new inherited) ms in opens_by keys v fs found ∙ ap (λ f. keys ++ still v fs f) e ∙ was.opened;
  }

  pub other_left : (done : List (Option ℕ)) (keys : List ℕ) (ms : List (Option Virtual)) (goal : List (Option ℕ)) (all : List ℕ)
      → Left done keys (None ∷ ms) goal all → Left (done ++ None ∷ []) keys ms goal all
  other_left done keys ms goal all was = record { made = append_assoc done (None ∷ []) (from_free (length keys) ms) ∙ was.made; opened = was.opened }

  pub shorter : (keys : List ℕ) (key : ℕ) (found : Option ℕ) → length (keys_with keys key found) ≤ suc (length keys)
  shorter keys key (Some n) = omega arith
  shorter keys key None = simp length-append (omega arith)

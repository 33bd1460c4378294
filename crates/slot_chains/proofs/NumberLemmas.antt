-- The numbers that own methods take over the slots of the parent.
use Rattle.std.proofs.Common.{◌≡◌, ℕ, suc, ◌+◌, ◌<◌, ◌≤◌, Bool, true, false, ◌&&◌, ◌||◌, nat_lt, cond, inl, inr, List, [], ◌∷◌, length, map, filter, Option, None, Some, slice_get, refl, ap, ap₂, ◌∙◌, sym, arith, length-append}
use Rattle.std.proofs.lemmas.Bool.{cases_Bool, lt-ltb, ltb-true}
use Rattle.std.proofs.lemmas.Option.{slice_get_past}
use Rattle.std.specs.List.{list_any}
use Rattle.std.specs.Option.{is_none, option_and_then}
use Rattle.type_tree.specs.declared.definition.Method.{Method}
use Rattle.type_tree.specs.World.{Facts}
use Rattle.method_slots.specs.declared.entries.SlotEntry.{SlotEntry}
use Rattle.method_slots.specs.Chains.{Take, flat, own_takes}
use Rattle.method_slots.specs.Faults.{stands_with, overrides_final}
use Rattle.method_slots.specs.Numbers as numbers
use Rattle.method_slots.specs.Opens.{Open, open_of}
use Rattle.method_slots.specs.Slots.{takes_slot, has_newslot, is_final, matches, overridden}
use Rattle.slot_chains.specs.Puts.{put, put_all}
use Rattle.slot_chains.proofs.PutLemmas.{AllFit, flat-some, set-length}

abbrev next : Option ℕ → Bool → Option ℕ
next found holds = elim found [ Some m ↦ Some (suc m) | None ↦ cond holds (Some 0) None ]

next-below : (found : Option ℕ) (holds : Bool) (n long : ℕ) → ((m : ℕ) → found ≡ Some m → m < long) → next found holds ≡ Some n → n < suc long
next-below (Some m) holds n long inside e = let same : suc m ≡ n = cc in let below = inside m refl in omega (arith, same, below)
next-below None true n long inside e = let same : 0 ≡ n = cc in omega (arith, same)
next-below None false n long inside e = absurd (cc)

last-below : {A : Type 0} → (p : A → Bool) (xs : List A) (n : ℕ) → numbers.last_place p xs ≡ Some n → n < length xs
last-below p [] n e = absurd (cc)
last-below p (x ∷ xs) n e = next-below (numbers.last_place p xs) (p x) n (length xs) (last-below p xs) e

-- put into the slots one after the other
pub record Owned (es : List SlotEntry) (ts : List Take) (opens : ℕ) : Type 0 where
  pub fits : AllFit es ts
  pub long : length (put_all es ts) ≡ length es + opens

module _ (slots : List Open) where
  abbrev from : ℕ → List Method → List (Option ℕ)
  from = numbers.numbers_from matches open_of takes_slot has_newslot slots

  abbrev opens : Method → Bool
  opens = numbers.opens matches open_of takes_slot has_newslot slots

  abbrev by : ℕ → List Method → Bool → Option ℕ → List (Option ℕ)
  by free ms takes found = cond takes (elim found [ Some n ↦ Some n ∷ from free ms | None ↦ Some free ∷ from (suc free) ms ]) (None ∷ from free ms)

  below : (m : Method) (q : ℕ) → overridden slots m ≡ Some q → q < length slots
  below m q e = through (has_newslot m) refl
    where
      through : (b : Bool) → has_newslot m ≡ b → q < length slots
      through true h = let g : None ≡ Some q = sym (ap (λ b. cond b None (numbers.last_place (matches (open_of m)) slots)) h) ∙ e in absurd (cc)
      through false h = last-below (matches (open_of m)) slots q (sym (ap (λ b. cond b None (numbers.last_place (matches (open_of m)) slots)) h) ∙ e)

  module _ (place : ℕ) where
    abbrev OwnedBy : List SlotEntry → ℕ → List (Option ℕ) → ℕ → Type 0
    OwnedBy es first ns count = Owned es (own_takes place first ns) count

    abbrev taken : ℕ → ℕ → Take
    taken first q = record { number = q; entry = record { method = record { 0 = first }; owner = place } }

    put-long : (es : List SlotEntry) (t : Take) → t.number < length es → length (put es t) ≡ length es
    put-long es t h = rw (lt-ltb t.number (length es) h) (set-length es t.number t.entry)

    push-long : (es : List SlotEntry) (t : Take) → t.number ≡ length es → length (put es t) ≡ suc (length es)
    push-long es t h = elim (cases_Bool (nat_lt t.number (length es))) [
      | inl e ↦ absurd (omega (arith, h, ltb-true t.number (length es) e))
      | inr e ↦ rw e (simp length-append (omega arith))
    ]

    step : (m : Method) (ms : List Method) (free first : ℕ) (es : List SlotEntry) → length slots ≤ free → length es ≡ free → (takes : Bool) (found : Option ℕ)
        → ((q : ℕ) → found ≡ Some q → q < length slots)
        → ((free first : ℕ) (es : List SlotEntry) → length slots ≤ free → length es ≡ free → OwnedBy es first (from free ms) (length (filter opens ms)))
        → OwnedBy es first (by free ms takes found) (length (cond (takes && is_none found) (m ∷ filter opens ms) (filter opens ms)))
    step m ms free first es low long false found inside rest = rest free (suc first) es low long
    step m ms free first es low long true (Some q) inside rest =
        let t = taken first q in
        let h : q < length es = omega (arith, inside q refl, low, long) in
        let same = put-long es t h in
        let more = rest free (suc first) (put es t) low (same ∙ long) in
        record { fits = (record { fits = omega (arith, h) }, more.fits); long = let e = more.long in omega (arith, e, same) }
    step m ms free first es low long true None inside rest =
        let t = taken first free in
        let longer = push-long es t (sym long) in
        let more = rest (suc free) (suc first) (put es t) (omega (arith, low)) (longer ∙ ap suc long) in
        record { fits = (record { fits = omega (arith, long) }, more.fits); long = let e = more.long in omega (arith, e, longer) }

    pub owned : (ms : List Method) (free first : ℕ) (es : List SlotEntry) → length slots ≤ free → length es ≡ free → OwnedBy es first (from free ms) (length (filter opens ms))
    owned [] free first es low long = record { fits = tt; long = omega arith }
    owned (m ∷ ms) free first es low long = step m ms free first es low long (takes_slot m) (overridden slots m) (below m) (owned ms)

  module _ (w : Facts) (es : List SlotEntry) (long : length es ≡ length slots) where
    abbrev at_number : Option ℕ → Bool
    at_number number = stands_with is_final w (option_and_then (slice_get es) number)

    abbrev at_method : Bool → Option ℕ → Bool
    at_method takes found = takes && stands_with is_final w (option_and_then (λ q. flat (slice_get (map Some es) q)) found)

    final-step : (ms : List Method) (free : ℕ) → length slots ≤ free → ((free : ℕ) → length slots ≤ free → list_any at_number (from free ms) ≡ list_any (overrides_final w slots (map Some es)) ms)
        → (takes : Bool) (found : Option ℕ) → list_any at_number (by free ms takes found) ≡ (at_method takes found || list_any (overrides_final w slots (map Some es)) ms)
    final-step ms free low rest false found = rest free low
    final-step ms free low rest true (Some q) = ap₂ (λ e r. stands_with is_final w e || r) (sym (flat-some es q)) (rest free low)
    final-step ms free low rest true None = ap₂ (λ e r. stands_with is_final w e || r) (slice_get_past es free (omega (arith, low, long))) (rest (suc free) (omega (arith, low)))

    pub finals-found : (ms : List Method) (free : ℕ) → length slots ≤ free → list_any at_number (from free ms) ≡ list_any (overrides_final w slots (map Some es)) ms
    finals-found [] free low = refl
    finals-found (m ∷ ms) free low = final-step ms free low (finals-found ms) (takes_slot m) (overridden slots m)

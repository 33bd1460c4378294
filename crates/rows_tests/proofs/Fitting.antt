-- The plan of the two classes fits.
use Rattle.std.proofs.Common.{◌∙◌, ◌≤◌, ◌≡◌, ℕ, zero, suc, ◌<◌, List, ◌∷◌, length, slice_get, slice_index_or, Option, None, Some, Contains, sym, refl, ap, subst, arith}
use Rattle.std.proofs.lemmas.Option.{slice_get_within}
use Rattle.node_set.specs.Keys.{Key}
use Rattle.type_record.specs.declared.entry.Entry.{Entry}
use Rattle.type_record.specs.Records.{entry}
use Rattle.key_publish.specs.declared.plan.Member.{Member}
use Rattle.key_publish.specs.declared.plan.Part.TheVariants.{Head}
use Rattle.key_publish.specs.Plans.{Denotes, IsPart, EntryFits, MemberFits, PlanFits}
use Rattle.rows_tests.specs.Classes.{class, classes, facts, words, words_are, parent_of, fields_of, replicate_at, same_some}
use Rattle.rows_tests.specs.Circle.{parts, member, members}

abbrev Fits : Entry ℕ → Entry Key → Type 0
Fits = EntryFits (Denotes parts)

here : (i j : Entry ℕ) (e f : Entry Key) → Some i ≡ Some j → Some e ≡ Some f → Fits i e → Fits j f
here i j e f a b fits = subst (λ (x : Entry ℕ × Entry Key). Fits x.0 x.1) (λ t. (same_some (Some i) i j refl a t, same_some (Some e) e f refl b t)) fits

none_fits : (n w : ℕ) (i : Entry ℕ) (e : Entry Key) → n < 31 → Some (entry n None) ≡ Some i → Some (entry n None) ≡ Some e → Fits i e
none_fits n w i e small a b = here (entry n None) i (entry n None) e a b (refl, omega arith, tt)

words_fit : (p : ℕ) (above : Option ℕ) (k : Key) → fields_of k < 31 → Fits (entry 64 (Some p)) (entry 64 (Some k)) → Fits (entry 0 above) (entry 0 (parent_of k))
    → (w : ℕ) (i : Entry ℕ) (e : Entry Key) → slice_get (words p above (fields_of k)) w ≡ Some i → slice_get (words k (parent_of k) (fields_of k)) w ≡ Some e → Fits i e
words_fit p above k few one two zero i e a b = here (entry 64 (Some p)) i (entry 64 (Some k)) e a b one
words_fit p above k few one two (suc zero) i e a b = here (entry 0 above) i (entry 0 (parent_of k)) e a b two
words_fit p above k few one two (suc (suc zero)) i e a b = none_fits 0 2 i e (omega arith) a b
words_fit p above k few one two (suc (suc (suc zero))) i e a b = none_fits (fields_of k) 3 i e few a b
words_fit p above k few one two (suc (suc (suc (suc zero)))) i e a b = none_fits 1 4 i e (omega arith) a b
words_fit p above k few one two (suc (suc (suc (suc (suc zero))))) i e a b = none_fits 2 5 i e (omega arith) a b
words_fit p above k few one two (suc (suc (suc (suc (suc (suc zero)))))) i e a b = none_fits 3 6 i e (omega arith) a b
words_fit p above k few one two (suc (suc (suc (suc (suc (suc (suc zero))))))) i e a b = none_fits 4 7 i e (omega arith) a b
words_fit p above k few one two (suc (suc (suc (suc (suc (suc (suc (suc w)))))))) i e a b =
    none_fits 0 8 i e (omega arith) (ap Some (replicate_at (fields_of k) w (entry 0 None) i a)) (ap Some (replicate_at (fields_of k) w (entry 0 None) e b))

member_fits : (p : ℕ) (above : Option ℕ) (k : Key) → fields_of k < 31 → length (words p above (fields_of k)) ≤ 137438953472 → length (words p above (fields_of k)) ≡ length (words k (parent_of k) (fields_of k)) → Denotes parts p k → Fits (entry 64 (Some p)) (entry 64 (Some k)) → Fits (entry 0 above) (entry 0 (parent_of k)) → MemberFits (Denotes parts) facts (member p above (fields_of k)) k
member_fits p above k few small same denotes one two =
    let are = words_are k (parent_of k) (fields_of k) in (
      denotes,
      small,
      same ∙ sym (ap length are),
      λ w i e a b. words_fit p above k few one two w i e a (subst (λ (l : List (Entry Key)). slice_get l w ≡ Some e) are b),
    )

fits_first : MemberFits (Denotes parts) facts (member 0 None 0) (class 0)
fits_first = member_fits 0 None (class 0) (omega arith) (omega arith) refl refl (refl, omega arith, refl) (refl, omega arith, tt)

fits_second : MemberFits (Denotes parts) facts (member 1 (Some 0) 30) (class 1)
fits_second = member_fits 1 (Some 0) (class 1) (omega arith) (omega arith) refl refl (refl, omega arith, refl) (refl, omega arith, refl)

parts_fit : (i : ℕ) → i < length parts → IsPart parts i
parts_fit zero low = (Head (record { 0 = 0 }), class 0, refl, omega arith, refl, (tt, omega arith))
parts_fit (suc zero) low = (Head (record { 0 = 1 }), class 1, refl, omega arith, refl, (tt, omega arith))
parts_fit (suc (suc i)) low = absurd (omega arith)

module _ (root : Key) where
  members_fit : (j : ℕ) (m : Member) → slice_get members j ≡ Some m → (k : Key) × Contains (root ∷ classes) k × MemberFits (Denotes parts) facts m k
  members_fit zero m at = (class 0, (1, omega arith, refl), subst (λ (x : Member). MemberFits (Denotes parts) facts x (class 0)) (same_some (Some (member 0 None 0)) (member 0 None 0) m refl at) fits_first)
  members_fit (suc zero) m at = (class 1, (2, omega arith, refl), subst (λ (x : Member). MemberFits (Denotes parts) facts x (class 1)) (same_some (Some (member 1 (Some 0) 30)) (member 1 (Some 0) 30) m refl at) fits_second)
  members_fit (suc (suc j)) m at = absurd (omega (arith, slice_get_within members (suc (suc j)) m at))

abbrev InPlan : Key → Type 0
InPlan k = (j : ℕ) × (m : Member) × (slice_get members j ≡ Some m) × MemberFits (Denotes parts) facts m k

first_in : InPlan (class 0)
first_in = (0, member 0 None 0, refl, fits_first)

second_in : InPlan (class 1)
second_in = (1, member 1 (Some 0) 30, refl, fits_second)

asked_in : (n : ℕ) → n < 2 → (m : Member) × (slice_get members n ≡ Some m) × MemberFits (Denotes parts) facts m (class n)
asked_in zero low = (member 0 None 0, refl, fits_first)
asked_in (suc zero) low = (member 1 (Some 0) 30, refl, fits_second)
asked_in (suc (suc n)) low = absurd (omega arith)

in_plan : (n : ℕ) → n < 2 → InPlan (class n)
in_plan zero low = first_in
in_plan (suc zero) low = second_in
in_plan (suc (suc n)) low = absurd (omega arith)

whole : (n : ℕ) → n < 2 → (k : Key) (i : ℕ) → i < 3 → slice_index_or (class n ∷ classes) i k ≡ k → InPlan k
whole n few k zero low is = subst InPlan is (in_plan n few)
whole n few k (suc zero) low is = subst InPlan is first_in
whole n few k (suc (suc zero)) low is = subst InPlan is second_in
whole n few k (suc (suc (suc i))) low is = absurd (omega arith)

pub fits : (n : ℕ) → n < 2 → PlanFits facts parts members n (class n)
fits n few = record {
  parts_fit = parts_fit;
  members_fit = members_fit (class n);
  whole = λ k there. whole n few k there.0 there.1 there.2;
  asked_fits = asked_in n few;
}

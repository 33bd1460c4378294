-- The members of a run that have a name: one member more, and those past the last one.
use Rattle.std.proofs.Common.{◌≡◌, ℕ, zero, suc, ◌+◌, ◌-◌, ◌<◌, ◌≤◌, ◌==◌, Bool, true, false, cond, List, [], ◌∷◌, ◌++◌, length, get_or, Some, slice_get, filter, refl, sym, ap, ◌∙◌, arith, if◌then◌else◌}
use Rattle.std.specs.Option.{option_map_or}
use Rattle.std.specs.List.{range_with_len}
use Rattle.std.proofs.lemmas.List.{append-nil}
use Rattle.std.proofs.lemmas.List.Elements.{filter-append}
use Rattle.std.proofs.lemmas.Option.{slice_get_past, slice_get-get_or}
use Rattle.clr_base.specs.declared.ids.NameId.{NameId}
use Rattle.type_members.specs.MemberIndexes.{has_name, named}
use Rattle.type_members.specs.MemberTable.{same_name}
use Rattle.clr_base.proofs.Ranges.{range_more}

one_kept : (p : ℕ → Bool) (i : ℕ) (b : Bool) (xs : List ℕ) → p i ≡ b → xs ++ filter p (i ∷ []) ≡ cond b (xs ++ i ∷ []) xs
one_kept p i true xs e = rw e refl
one_kept p i false xs e = rw e (append-nil xs)

kept_more : (p : ℕ → Bool) (a n : ℕ)
    → filter p (range_with_len a (n + 1)) ≡ cond (p (a + n)) (filter p (range_with_len a n) ++ (a + n) ∷ []) (filter p (range_with_len a n))
kept_more p a n =
    let e : n + 1 ≡ suc n = omega arith in
    ap (λ (k : ℕ). filter p (range_with_len a k)) e ∙ ap (filter p) (range_more a n) ∙ filter-append p (range_with_len a n) ((a + n) ∷ [])
    ∙ one_kept p (a + n) (p (a + n)) (filter p (range_with_len a n)) refl

-- the name that is read at a place
pub name_at : (names : List NameId) (i : ℕ) (d : NameId) → i < length names → slice_get names i ≡ Some (get_or names i d)
name_at names i d within = slice_get-get_or names i d within

-- whether a member that is there has a name
name_there : (names : List NameId) (name own : NameId) (i : ℕ) → slice_get names i ≡ Some own → has_name names name i ≡ same_name own name
name_there names name own i e = ap (λ n. option_map_or (λ m. same_name m name) n false) e

pub named_more : (names : List NameId) (first k : ℕ) (name own : NameId) (old new : List ℕ) → slice_get names (first + k) ≡ Some own
    → old ≡ named names first k name → new ≡ (if own.0 == name.0 then old ++ (first + k) ∷ [] else old) → new ≡ named names first (k + 1) name
named_more names first k name own old new there before e =
    e ∙ ap (λ (xs : List ℕ). if own.0 == name.0 then xs ++ (first + k) ∷ [] else xs) before
    ∙ ap (λ (b : Bool). cond b (named names first k name ++ (first + k) ∷ []) (named names first k name)) (sym (name_there names name own (first + k) there))
    ∙ sym (kept_more (has_name names name) first k)

-- ---- a run that goes past the last member

-- no item is kept where none passes
drop_one : (p : ℕ → Bool) (i : ℕ) (xs : List ℕ) → p i ≡ false → filter p (i ∷ xs) ≡ filter p xs
drop_one p i xs e = rw e refl

none_kept : (p : ℕ → Bool) (a n : ℕ) → ((i : ℕ) → a ≤ i → p i ≡ false) → filter p (range_with_len a n) ≡ []
none_kept p a zero fails = refl
none_kept p a (suc n) fails =
    drop_one p a (range_with_len (a + 1) n) (fails a (omega arith)) ∙ none_kept p (a + 1) n (λ i h. fails i (omega arith))

kept_same : (p : ℕ → Bool) (a m n : ℕ) → m ≤ n → ((i : ℕ) → a + m ≤ i → p i ≡ false) → filter p (range_with_len a m) ≡ filter p (range_with_len a n)
kept_same p a zero n less fails = sym (none_kept p a n (λ i h. fails i (omega arith)))
kept_same p a (suc m) zero less fails = absurd (omega arith)
kept_same p a (suc m) (suc n) less fails =
    ap (λ (xs : List ℕ). cond (p a) (a ∷ xs) xs) (kept_same p (a + 1) m n (omega arith) (λ i h. fails i (omega arith)))

not_there : (names : List NameId) (name : NameId) (i : ℕ) → length names ≤ i → has_name names name i ≡ false
not_there names name i past = ap (λ n. option_map_or (λ m. same_name m name) n false) (slice_get_past names i past)

-- those of the part that is there are those of the run
pub named_all : (names : List NameId) (first count there : ℕ) (name : NameId) → there ≤ count → (there < count → length names ≤ first + there)
    → named names first there name ≡ named names first count name
named_all names first count there name less past = by_end (count - there) refl
  where
    by_end : (rest : ℕ) → count - there ≡ rest → named names first there name ≡ named names first count name
    by_end zero e = let same : there ≡ count = omega arith in ap (λ (n : ℕ). named names first n name) same
    by_end (suc rest) e =
        let end = past (omega arith) in
        kept_same (has_name names name) first there count less (λ i h. not_there names name i (omega (arith, end)))

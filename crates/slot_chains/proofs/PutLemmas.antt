-- What stands in slots into which entries are put: in each the last that took its number.
use Rattle.std.proofs.Common.{◌≡◌, ℕ, zero, suc, ◌<◌, ◌≤◌, Bool, true, false, true≢false, nat_eq, nat_lt, cond, inl, inr, List, [], ◌∷◌, ◌++◌, length, map, Option, None, Some, slice_get, slice_set, refl, ap, ◌∙◌, sym, eqb-true, arith}
use Rattle.std.proofs.lemmas.Bool.{cases_Bool, eq-eqb, ltb-true, ltb-false}
use Rattle.std.specs.List.{filter_map, cons_option}
use Rattle.method_slots.specs.declared.entries.SlotEntry.{SlotEntry}
use Rattle.method_slots.specs.Chains.{Take, flat, last_of, standing}
use Rattle.slot_chains.specs.Puts.{put, put_all, replace, replace_all}

abbrev takes_number : ℕ → Take → Bool
takes_number i t = nat_eq t.number i

-- what stands in the slot i, where the last of some takes is this, and where this stood before
abbrev stood : Option Take → Option SlotEntry → Option SlotEntry
stood last before = elim last [ Some t ↦ Some t.entry | None ↦ before ]

-- the last of one more, at the front
front : (i : ℕ) (t : Take) (ts : List Take) (before : Option SlotEntry)
    → stood (last_of (takes_number i) (t ∷ ts)) before ≡ stood (last_of (takes_number i) ts) (cond (nat_eq t.number i) (Some t.entry) before)
front i t ts before = elim (last_of (takes_number i) ts) as (λ l. stood (elim l [ Some y ↦ Some y | None ↦ cond (nat_eq t.number i) (Some t) None ]) before ≡ stood l (cond (nat_eq t.number i) (Some t.entry) before)) [
  | Some y ↦ refl
  | None ↦ elim (nat_eq t.number i) as (λ b. stood (cond b (Some t) None) before ≡ cond b (Some t.entry) before) [ true ↦ refl | false ↦ refl ]
]

-- ---- one entry

apart : (a b : ℕ) → (a ≡ b → ⊥) → nat_eq a b ≡ false
apart a b f = elim (cases_Bool (nat_eq a b)) [ inl e ↦ absurd (f (eqb-true a b e)) | inr e ↦ e ]

alike : (a b : ℕ) → nat_eq a b ≡ nat_eq (suc a) (suc b)
alike a b = elim (cases_Bool (nat_eq a b)) [
  | inl e ↦ e ∙ sym (eq-eqb (suc a) (suc b) (ap suc (eqb-true a b e)))
  | inr e ↦ e ∙ sym (apart (suc a) (suc b) (λ h. let same : a ≡ b = omega (arith, h) in true≢false (sym (eq-eqb a b same) ∙ e)))
]

zero-suc : (i : ℕ) → nat_eq 0 (suc i) ≡ false
zero-suc i = apart 0 (suc i) (λ h. omega (arith, h))

suc-zero : (i : ℕ) → nat_eq (suc i) 0 ≡ false
suc-zero i = apart (suc i) 0 (λ h. omega (arith, h))

abbrev either : Option SlotEntry → Option SlotEntry → Bool → Option SlotEntry
either new old b = cond b new old

get-set : (es : List SlotEntry) (k : ℕ) (e : SlotEntry) (i : ℕ) → k < length es → slice_get (slice_set es k e) i ≡ cond (nat_eq k i) (Some e) (slice_get es i)
get-set [] k e i h = absurd (omega (arith, h))
get-set (x ∷ es) zero e zero h = refl
get-set (x ∷ es) zero e (suc i) h = sym (ap (either (Some e) (slice_get es i)) (zero-suc i))
get-set (x ∷ es) (suc k) e zero h = sym (ap (either (Some e) (Some x)) (suc-zero k))
get-set (x ∷ es) (suc k) e (suc i) h = get-set es k e i (omega (arith, h)) ∙ ap (either (Some e) (slice_get es i)) (alike k i)

get-push : (es : List SlotEntry) (e : SlotEntry) (i : ℕ) → slice_get (es ++ e ∷ []) i ≡ cond (nat_eq (length es) i) (Some e) (slice_get es i)
get-push [] e zero = refl
get-push [] e (suc i) = sym (ap (either (Some e) None) (zero-suc i))
get-push (x ∷ es) e zero = sym (ap (either (Some e) (Some x)) (suc-zero (length es)))
get-push (x ∷ es) e (suc i) = get-push es e i ∙ ap (either (Some e) (slice_get es i)) (alike (length es) i)

pub set-length : (es : List SlotEntry) (k : ℕ) (e : SlotEntry) → length (slice_set es k e) ≡ length es
set-length [] k e = refl
set-length (x ∷ es) zero e = refl
set-length (x ∷ es) (suc k) e = ap suc (set-length es k e)

put-get : (es : List SlotEntry) (t : Take) (i : ℕ) → t.number ≤ length es → slice_get (put es t) i ≡ cond (nat_eq t.number i) (Some t.entry) (slice_get es i)
put-get es t i h = elim (cases_Bool (nat_lt t.number (length es))) [
  | inl e ↦ rw e (get-set es t.number t.entry i (ltb-true t.number (length es) e))
  | inr e ↦ let last : t.number ≡ length es = omega (arith, h, ltb-false t.number (length es) e) in
      rw e (get-push es t.entry i ∙ ap (λ n. cond (nat_eq n i) (Some t.entry) (slice_get es i)) (sym last))
]

-- ---- all of them

-- each number is that of a slot, or the next free one
pub record Fits (es : List SlotEntry) (t : Take) : Type 0 where
  pub fits : t.number ≤ length es

abbrev pub AllFit : List SlotEntry → List Take → Type 0
AllFit es [] = Unit {0}
AllFit es (t ∷ ts) = Fits es t × AllFit (put es t) ts

pub put_all-get : (es : List SlotEntry) (ts : List Take) (i : ℕ) → AllFit es ts → slice_get (put_all es ts) i ≡ stood (last_of (takes_number i) ts) (slice_get es i)
put_all-get es [] i h = refl
put_all-get es (t ∷ ts) i h = put_all-get (put es t) ts i h.1 ∙ ap (stood (last_of (takes_number i) ts)) (put-get es t i h.0.fits) ∙ sym (front i t ts (slice_get es i))

-- ---- those of rows

replace-get : (es : List SlotEntry) (t : Take) (i : ℕ) → i < length es → slice_get (replace es (Some t)) i ≡ cond (nat_eq t.number i) (Some t.entry) (slice_get es i)
replace-get es t i h = elim (cases_Bool (nat_lt t.number (length es))) [
  | inl e ↦ rw e (get-set es t.number t.entry i (ltb-true t.number (length es) e))
  | inr e ↦ elim (cases_Bool (nat_eq t.number i)) [
    | inl f ↦ let same = eqb-true t.number i f in absurd (omega (arith, h, same, ltb-false t.number (length es) e))
    | inr f ↦ rw (e, f) refl
  ]
]

replace-length : (es : List SlotEntry) (t : Option Take) → length (replace es t) ≡ length es
replace-length es None = refl
replace-length es (Some t) = elim (nat_lt t.number (length es)) as (λ b. length (cond b (slice_set es t.number t.entry) es) ≡ length es) [ true ↦ set-length es t.number t.entry | false ↦ refl ]

pub replace_all-length : (es : List SlotEntry) (ts : List (Option Take)) → length (replace_all es ts) ≡ length es
replace_all-length es [] = refl
replace_all-length es (t ∷ ts) = replace_all-length (replace es t) ts ∙ replace-length es t

pub replace_all-get : {R : Type 0} → (f : R → Option Take) (es : List SlotEntry) (rs : List R) (i : ℕ) → i < length es
    → slice_get (replace_all es (map f rs)) i ≡ stood (last_of (takes_number i) (filter_map f rs)) (slice_get es i)
replace_all-get f es [] i h = refl
replace_all-get f es (r ∷ rs) i h = elim (f r) as (λ t. slice_get (replace_all (replace es t) (map f rs)) i ≡ stood (last_of (takes_number i) (cons_option t (filter_map f rs))) (slice_get es i)) [
  | None ↦ replace_all-get f es rs i h
  | Some t ↦
      let within : i < length (replace es (Some t)) = let e = replace-length es (Some t) in omega (arith, h, e) in
      replace_all-get f (replace es (Some t)) rs i within ∙ ap (stood (last_of (takes_number i) (filter_map f rs))) (replace-get es t i h) ∙ sym (front i t (filter_map f rs) (slice_get es i))
]

-- what follows others
abbrev last-append : Option Take → Option Take → Option Take
last-append first then = elim then [ Some t ↦ Some t | None ↦ first ]

last_of-append : (p : Take → Bool) (xs ys : List Take) → last_of p (xs ++ ys) ≡ last-append (last_of p xs) (last_of p ys)
last_of-append p [] ys = elim (last_of p ys) as (λ l. l ≡ last-append None l) [ Some t ↦ refl | None ↦ refl ]
last_of-append p (x ∷ xs) ys =
    ap (λ l. elim l [ Some y ↦ Some y | None ↦ cond (p x) (Some x) None ]) (last_of-append p xs ys)
    ∙ elim (last_of p ys) as (λ l. elim (last-append (last_of p xs) l) [ Some y ↦ Some y | None ↦ cond (p x) (Some x) None ] ≡ last-append (elim (last_of p xs) [ Some y ↦ Some y | None ↦ cond (p x) (Some x) None ]) l) [
      | Some t ↦ refl
      | None ↦ refl
    ]

stood-append : (first then : Option Take) (before : Option SlotEntry) → stood (last-append first then) before ≡ stood then (stood first before)
stood-append first (Some t) before = refl
stood-append first None before = refl

pub flat-some : (es : List SlotEntry) (i : ℕ) → flat (slice_get (map Some es) i) ≡ slice_get es i
flat-some [] i = refl
flat-some (e ∷ es) zero = refl
flat-some (e ∷ es) (suc i) = flat-some es i

some-get : (es : List SlotEntry) (i : ℕ) → i < length es → slice_get (map Some es) i ≡ Some (slice_get es i)
some-get [] i h = absurd (omega (arith, h))
some-get (e ∷ es) zero h = refl
some-get (e ∷ es) (suc i) h = some-get es i (omega (arith, h))

-- The own takes put in one after the other, and then the rows', stand as the definition says.
pub stand : {R : Type 0} → (f : R → Option Take) (es : List SlotEntry) (own : List Take) (rs : List R) (i : ℕ) → AllFit es own → i < length (put_all es own)
    → slice_get (map Some (replace_all (put_all es own) (map f rs))) i ≡ Some (standing (own ++ filter_map f rs) (map Some es) i)
stand f es own rs i fit h =
    let all = replace_all (put_all es own) (map f rs) in
    let long : i < length all = let e = replace_all-length (put_all es own) (map f rs) in omega (arith, h, e) in
    let rows = last_of (takes_number i) (filter_map f rs) in
    let owns = last_of (takes_number i) own in
    let got : slice_get all i ≡ stood rows (stood owns (slice_get es i)) = replace_all-get f (put_all es own) rs i h ∙ ap (stood rows) (put_all-get es own i fit) in
    let whole : standing (own ++ filter_map f rs) (map Some es) i ≡ stood rows (stood owns (slice_get es i)) =
    ap (λ l. stood l (flat (slice_get (map Some es) i))) (last_of-append (takes_number i) own (filter_map f rs)) ∙ stood-append owns rows _ ∙ ap (λ e. stood rows (stood owns e)) (flat-some es i) in
    some-get all i long ∙ ap Some (got ∙ sym whole)

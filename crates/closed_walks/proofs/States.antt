-- States of nodes.
use Rattle.std.proofs.Common.{◌≡◌, ℕ, ◌≤◌, ◌<◌, Bool, false, cond, nat_le, ◌⊎◌, inl, inr, List, [], ◌∷◌, ◌++◌, length, set, take, drop, get_or, refl, ap, ◌∙◌, sym, subst, arith, length-set, length-append, get_or-set_same, get_or-set_other}
use Rattle.std.specs.List.{Contains}
use Rattle.std.proofs.Math.ListN.{get_or-eq_default}
use Rattle.std.proofs.lemmas.List.{take-append-le}
use Rattle.std.proofs.lemmas.Bool.{cases_Bool, cases_lt, cases_eq, lt-leb, le-leb}
use Rattle.closed_walks.specs.declared.search.State.{State}
use Rattle.closed_walks.specs.declared.search.State.TheVariants.{Unseen, Open, Done}
use Rattle.closed_walks.specs.Search.{state_at, all_done}
use Rattle.closed_walks.proofs.Lists.{drop-push, none_in, in_cons, first_in, later_in, in_drop, drop_in}

pub unseen_within : (states : List State) (v : ℕ) → state_at states v ≡ Unseen → v < length states
unseen_within states v e = elim (cases_lt v (length states)) [
  | inl lt ↦ lt
  | inr ge ↦ absurd (let d = get_or-eq_default states (Done false) ge in cc)
]

pub length-all_done : (found : Bool) (ns : List ℕ) (states : List State) → length (all_done found ns states) ≡ length states
length-all_done found [] states = refl
length-all_done found (n ∷ ns) states = length-set (all_done found ns states) n (Done found) ∙ length-all_done found ns states

pub all_done-push : (found : Bool) (ns : List ℕ) (n : ℕ) (states : List State) → all_done found (ns ++ n ∷ []) states ≡ all_done found ns (set states n (Done found))
all_done-push found [] n states = refl
all_done-push found (m ∷ ns) n states = ap (λ l. set l m (Done found)) (all_done-push found ns n states)

-- one node is taken off the path, and done
pub settle_step : (found : Bool) (place : ℕ) (path rest : List ℕ) (n : ℕ) (states new : List State) → path ≡ rest ++ n ∷ [] → place < length path → new ≡ set states n (Done found)
    → (place ≤ length rest) × (take place rest ≡ take place path) × (all_done found (drop place rest) new ≡ all_done found (drop place path) states)
settle_step found place path rest n states new e more is =
    let l = ap length e in
    let k = length-append rest (n ∷ []) in
    let fits : place ≤ length rest = omega arith in (
      fits,
      sym (take-append-le place rest (n ∷ []) fits) ∙ ap (take place) (sym e),
      ap (all_done found (drop place rest)) is ∙ sym (all_done-push found (drop place rest) n states) ∙ ap (λ p. all_done found p states) (sym (drop-push place rest n fits) ∙ ap (drop place) (sym e)),
    )

pub done_in : (found : Bool) (ns : List ℕ) (states : List State) (v : ℕ) → v < length states → Contains ns v → state_at (all_done found ns states) v ≡ Done found
done_in found [] states v within h = absurd (none_in v h)
done_in found (n ∷ ns) states v within h = elim (cases_eq v n) [
  | inl e ↦
      let long = length-all_done found ns states in
      let inside : n < length (all_done found ns states) = omega arith in
      ap (λ i. get_or (set (all_done found ns states) n (Done found)) i (Done false)) e ∙ get_or-set_same (all_done found ns states) n (Done found) (Done false) inside
  | inr other ↦ get_or-set_other (all_done found ns states) n v (Done found) (Done false) other ∙ done_in found ns states v within (elim (in_cons n ns v h) [
    | inl same ↦ absurd (other (sym same))
    | inr later ↦ later
  ])
]

pub done_out : (found : Bool) (ns : List ℕ) (states : List State) (v : ℕ) → (Contains ns v → ⊥) → state_at (all_done found ns states) v ≡ state_at states v
done_out found [] states v out = refl
done_out found (n ∷ ns) states v out =
    get_or-set_other (all_done found ns states) n v (Done found) (Done false) (λ e. out (subst (λ (w : ℕ). Contains (n ∷ ns) w) (sym e) (first_in n ns)))
    ∙ done_out found ns states v (λ h. out (later_in n ns v h))

-- the state of a node once the part of the path from q on is closed
abbrev pub after : ℕ → Bool → State → State
after q found Unseen = Unseen
after q found (Open p) = cond (nat_le q p) (Done found) (Open p)
after q found (Done was) = Done was

pub after_closed : (q : ℕ) (found : Bool) (path : List ℕ) (states : List State)
    → ((p : ℕ) → p < length path → state_at states (get_or path p 0) ≡ Open p)
    → ((v p : ℕ) → state_at states v ≡ Open p → (p < length path) × (get_or path p 0 ≡ v))
    → (v : ℕ) → state_at (all_done found (drop q path) states) v ≡ after q found (state_at states v)
after_closed q found path states on_path places v = by (state_at states v) refl
  where
    outside : ((p : ℕ) → state_at states v ≡ Open p → q ≤ p → ⊥) → state_at (all_done found (drop q path) states) v ≡ state_at states v
    outside none = done_out found (drop q path) states v (λ h. let r = in_drop q path v h in none r.0 (ap (state_at states) (sym r.3) ∙ on_path r.0 r.2) r.1)

    by : (s : State) → state_at states v ≡ s → state_at (all_done found (drop q path) states) v ≡ after q found s
    by Unseen e = outside (λ p o le. absurd (let x : Unseen ≡ Open p = sym e ∙ o in cc)) ∙ e
    by (Done was) e = outside (λ p o le. absurd (let x : Done was ≡ Open p = sym e ∙ o in cc)) ∙ e
    by (Open p) e = elim (cases_lt p q) [
      | inl lt ↦
          let none : nat_le q p ≡ false = lt-leb q p lt in
          rw none (outside (λ r o le. let x : Open p ≡ Open r = sym e ∙ o in let same : p ≡ r = cc in omega arith) ∙ e)
      | inr ge ↦
          let w = places v p e in
          let within : v < length states = elim (cases_lt v (length states)) [ inl lt ↦ lt | inr past ↦ absurd (let d = get_or-eq_default states (Done false) past in cc) ] in
          rw (le-leb q p ge) (done_in found (drop q path) states v within (subst (λ (u : ℕ). Contains (drop q path) u) w.1 (drop_in q path p ge w.0)))
    ]

pub after_open : (q : ℕ) (found : Bool) (s : State) (p : ℕ) → after q found s ≡ Open p → (s ≡ Open p) × (p < q)
after_open q found Unseen p e = absurd (cc)
after_open q found (Done was) p e = absurd (cc)
after_open q found (Open r) p e = elim (cases_lt r q) [
  | inl lt ↦
      let none : nat_le q r ≡ false = lt-leb q r lt in
      let f : Open r ≡ Open p = rw none at e in
      let same : r ≡ p = cc in (f, omega arith)
  | inr ge ↦ absurd (let f : Done found ≡ Open p = rw (le-leb q r ge) at e in cc)
]

pub after_done : (q : ℕ) (found : Bool) (s : State) (b : Bool) → after q found s ≡ Done b → (s ≡ Done b) ⊎ ((p : ℕ) × (s ≡ Open p) × (q ≤ p) × (found ≡ b))
after_done q found Unseen b e = absurd (cc)
after_done q found (Done was) b e = inl e
after_done q found (Open r) b e = elim (cases_lt r q) [
  | inl lt ↦
      let none : nat_le q r ≡ false = lt-leb q r lt in
      absurd (let f : Open r ≡ Done b = rw none at e in cc)
  | inr ge ↦ let f : Done found ≡ Done b = rw (le-leb q r ge) at e in let same : found ≡ b = cc in inr (r, refl, ge, same)
]

pub after_unseen : (q : ℕ) (found : Bool) (s : State) → after q found s ≡ Unseen → s ≡ Unseen
after_unseen q found Unseen e = refl
after_unseen q found (Done was) e = e
after_unseen q found (Open r) e = elim (cases_Bool (nat_le q r)) [
  | inl y ↦ absurd (let f : Done found ≡ Unseen = rw y at e in cc)
  | inr n ↦ absurd (let f : Open r ≡ Unseen = rw n at e in cc)
]

pub before_close : (q p : ℕ) (found : Bool) → p < q → after q found (Open p) ≡ Open p
before_close q p found lt =
    let none : nat_le q p ≡ false = lt-leb q p lt in
    rw none

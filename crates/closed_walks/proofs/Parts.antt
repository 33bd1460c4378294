-- The last part of the path, once all its edges were followed.
use Rattle.std.proofs.Common.{◌≡◌, ℕ, zero, suc, ◌+◌, ◌-◌, ◌≤◌, ◌<◌, Bool, true, false, ◌||◌, ◌⊎◌, ◌↔◌, IsTrue, inl, inr, List, [], ◌∷◌, length, take, drop, get_or, refl, ap, ◌∙◌, sym, subst, arith, get_or-take, length-take-le}
use Rattle.std.specs.List.{list_any, Contains}
use Rattle.std.proofs.lemmas.Bool.{cases_Bool, cases_lt, le-leb}
use Rattle.std.proofs.lemmas.List.Elements.{Contains-append_left, Contains-push_cases}
use Rattle.closed_walks.specs.declared.graph.Edge.{Edge}
use Rattle.closed_walks.specs.declared.search.State.{State}
use Rattle.closed_walks.specs.declared.search.State.TheVariants.{Unseen, Open, Done}
use Rattle.closed_walks.specs.declared.search.Pending.{Pending}
use Rattle.closed_walks.specs.declared.search.Search.{Search}
use Rattle.closed_walks.specs.Walks.{edges_from, IsWalk, GoesOn}
use Rattle.closed_walks.specs.Search.{state_at, pending_at, leads, edge_leads, part_leads, all_done, EndsWith}
use Rattle.closed_walks.specs.Invariant.{IsSearch, IsSettled, Reaches, Rising}
use Rattle.closed_walks.proofs.Lists.{any_has, has_any, in_drop, drop_in}
use Rattle.closed_walks.proofs.Orders.{most_start, last_start, rising_front, rising_last}
use Rattle.closed_walks.proofs.Reach.{reach_refl, reach_trans, reach_edge, reach_same, goes_on_from, goes_on_round}
use Rattle.closed_walks.proofs.States.{length-all_done, after, after_closed, after_open, after_done, before_close}

abbrev pub node : Search → ℕ → ℕ
node s j = get_or s.path j 0

abbrev pub found_of : List (List Edge) → Search → ℕ → Bool
found_of graph s q = part_leads graph s.states (drop q s.path)

module _ (graph : List (List Edge)) (s : Search) (h : IsSearch graph s) where
  -- within a part each node leads back to the first
  pub descend : (i n : ℕ) → i + n < length s.path → ((p : ℕ) → Contains s.starts p → p ≤ i) → Reaches graph (node s (i + n)) (node s i)
  descend i zero within most = let e : i + 0 ≡ i = omega arith in reach_refl graph (node s (i + 0)) (node s i) (ap (node s) e)
  descend i (suc n) within most =
      let e : suc (i + n) ≡ i + suc n = omega arith in
      let inside : suc (i + n) < length s.path = omega arith in
      let before : i + n < length s.path = omega arith in
      subst (λ (j : ℕ). Reaches graph (node s j) (node s i)) e (elim (h.back (i + n) inside) [
        | inl start ↦ absurd (let le = most (suc (i + n)) start in omega arith)
        | inr one ↦ reach_trans graph (node s (suc (i + n))) (node s (i + n)) (node s i) one (descend i n before most)
      ])

  -- each open node leads to one of the last part
  pub up : (t : ℕ) → t < length s.path → ((p : ℕ) → Contains s.starts p → p ≤ t) → (i : ℕ) → i < length s.path → Reaches graph (node s i) (node s t)
  up t within most i inside = elim (cases_lt t i) [
    | inl lt ↦
        let e : t + (i - t) ≡ i = omega arith in
        subst (λ (j : ℕ). Reaches graph (node s j) (node s t)) e (descend t (i - t) (omega arith) most)
    | inr le ↦ h.onward i t le within
  ]

module _ (graph : List (List Edge)) (s : Search) (h : IsSearch graph s) (q : ℕ) (ends : EndsWith s.starts q) (low : (x : Pending) → Contains s.pending x → x.at < q) where
  within : q < length s.path
  within = h.starts_in q (last_start s.starts q ends)

  same_part : (i j : ℕ) → q ≤ j → i < length s.path → j < length s.path → Reaches graph (node s i) (node s j)
  same_part i j from inside_i inside_j =
      reach_trans graph (node s i) (node s q) (node s j) (up graph s h q within (most_start s.starts q h.rising ends) i inside_i) (h.onward q j from inside_j)

  settled : (j : ℕ) (e : Edge) → q ≤ j → j < length s.path → Contains (edges_from graph (node s j)) e → IsSettled s.starts j (state_at s.states e.to)
  settled j e from inside has = elim (h.known j e inside has) [
    | inl pending ↦ absurd (let l : j < q = low (pending_at j e) pending in omega arith)
    | inr is ↦ is
  ]

  shows : (j : ℕ) (e : Edge) → q ≤ j → j < length s.path → Contains (edges_from graph (node s j)) e → edge_leads s.states e ≡ true → found_of graph s q ≡ true
  shows j e from inside has is =
      has_any (λ n. list_any (edge_leads s.states) (edges_from graph n)) (drop q s.path) (node s j) (drop_in q s.path j from inside)
      (has_any (edge_leads s.states) (edges_from graph (node s j)) e has is)

  -- an edge of the part stays in it, or leads to a node of which all is found
  next : (j : ℕ) (e : Edge) → q ≤ j → j < length s.path → Contains (edges_from graph (node s j)) e
      → ((p : ℕ) × (q ≤ p) × (p < length s.path) × (node s p ≡ e.to) × (e.marked ≡ true → found_of graph s q ≡ true)) ⊎ (GoesOn graph e.to → found_of graph s q ≡ true)
  next j e from inside has = by (state_at s.states e.to) refl (settled j e from inside has)
    where
      by : (t : State) → state_at s.states e.to ≡ t → IsSettled s.starts j t
          → ((p : ℕ) × (q ≤ p) × (p < length s.path) × (node s p ≡ e.to) × (e.marked ≡ true → found_of graph s q ≡ true)) ⊎ (GoesOn graph e.to → found_of graph s q ≡ true)
      by Unseen is never = absurd never
      by (Open p) is back =
          let w = h.places e.to p is in
          inl (p, back q (last_start s.starts q ends) from, w.0, w.1, λ m. shows j e from inside has (ap (leads e.marked) is ∙ m))
      by (Done b) is all = inr (λ on. shows j e from inside has (ap (leads e.marked) is ∙ (h.exact e.to b is).1 on))

  stays : (es : List Edge) (j z : ℕ) → q ≤ j → j < length s.path → IsWalk graph (node s j) es z → GoesOn graph z
      → (found_of graph s q ≡ true) ⊎ ((p : ℕ) × (q ≤ p) × (p < length s.path) × (node s p ≡ z))
  stays [] j z from inside w on = inr (j, from, inside, w)
  stays (e ∷ es) j z from inside w on = elim (next j e from inside w.0) [
    | inl r ↦ stays es r.0 z r.1 r.2 (subst (λ (n : ℕ). IsWalk graph n es z) (sym r.3) w.1) on
    | inr f ↦ inl (f (goes_on_from graph e.to z (es, w.1) on))
  ]

  turns : (es : List Edge) (j z : ℕ) → q ≤ j → j < length s.path → IsWalk graph (node s j) es z → GoesOn graph z → list_any (λ e. e.marked) es ≡ true → found_of graph s q ≡ true
  turns [] j z from inside w on m = absurd (let f : false ≡ true = m in cc)
  turns (e ∷ es) j z from inside w on m = elim (next j e from inside w.0) [
    | inl r ↦ elim (cases_Bool e.marked) [
      | inl marked ↦ r.4 marked
      | inr plain ↦ turns es r.0 z r.1 r.2 (subst (λ (n : ℕ). IsWalk graph n es z) (sym r.3) w.1) on (rw plain at m)
    ]
    | inr f ↦ f (goes_on_from graph e.to z (es, w.1) on)
  ]

  part_complete : (j : ℕ) → q ≤ j → j < length s.path → GoesOn graph (node s j) → found_of graph s q ≡ true
  part_complete j from inside on =
      let there = goes_on_round graph (node s j) on in
      elim (stays on.before j on.turn from inside on.leads there) [
        | inl is ↦ is
        | inr r ↦ turns on.round r.0 on.turn r.1 r.2 (subst (λ (n : ℕ). IsWalk graph n on.round on.turn) (sym r.3) on.closes) there on.has_marked
      ]

  by_edge : (i : ℕ) (e : Edge) → q ≤ i → i < length s.path → Contains (edges_from graph (node s i)) e → (t : State) → state_at s.states e.to ≡ t → leads e.marked t ≡ true → IsSettled s.starts i t → GoesOn graph (node s i)
  by_edge i e from inside has Unseen is l never = absurd never
  by_edge i e from inside has (Open p) is l back =
      let w = h.places e.to p is in
      let r = same_part p i from w.0 inside in
      record {
        turn = node s i;
        before = [];
        leads = refl;
        round = e ∷ r.0;
        closes = (has, subst (λ (n : ℕ). IsWalk graph n r.0 (node s i)) w.1 r.1);
        has_marked = ap (λ b. b || list_any (λ (d : Edge). d.marked) r.0) l;
      }
  by_edge i e from inside has (Done b) is l all = goes_on_from graph (node s i) e.to (reach_edge graph (node s i) e has) ((h.exact e.to b is).0 l)

  part_sound : (j : ℕ) → q ≤ j → j < length s.path → found_of graph s q ≡ true → GoesOn graph (node s j)
  part_sound j from inside is =
      let a = any_has (λ n. list_any (edge_leads s.states) (edges_from graph n)) (drop q s.path) is in
      let r = in_drop q s.path a.0 a.1 in
      let b = any_has (edge_leads s.states) (edges_from graph a.0) a.2 in
      let has = subst (λ (n : ℕ). Contains (edges_from graph n) b.0) (sym r.3) b.1 in
      goes_on_from graph (node s j) (node s r.0) (same_part j r.0 r.1 inside r.2)
      (by_edge r.0 b.0 r.1 r.2 has (state_at s.states b.0.to) refl b.2 (settled r.0 b.0 r.1 r.2 has))

  abbrev pub closed : Search
  closed = record { states = all_done (found_of graph s q) (drop q s.path) s.states; path = take q s.path; starts = ends.0; pending = s.pending }

  pub state_of : (v : ℕ) → state_at (all_done (found_of graph s q) (drop q s.path) s.states) v ≡ after q (found_of graph s q) (state_at s.states v)
  state_of v = after_closed q (found_of graph s q) s.path s.states h.on_path h.places v

  old_at : (j : ℕ) → j < q → get_or (take q s.path) j 0 ≡ node s j
  old_at j lt = get_or-take q s.path j 0 lt

  long : length (take q s.path) ≡ q
  long = let w = within in length-take-le q s.path (omega arith)

  start_or : (p : ℕ) → Contains s.starts p → Contains ends.0 p ⊎ (q ≡ p)
  start_or p has = Contains-push_cases ends.0 q p (subst (λ (l : List ℕ). Contains l p) ends.1 has)

  exact_after : (v : ℕ) (b : Bool) → (p : ℕ) → state_at s.states v ≡ Open p → q ≤ p → found_of graph s q ≡ b → IsTrue b ↔ GoesOn graph v
  exact_after v b p is from same = let w = h.places v p is in (
    λ t. subst (GoesOn graph) w.1 (part_sound p from w.0 (same ∙ t)),
    λ on. sym same ∙ part_complete p from w.0 (subst (GoesOn graph) (sym w.1) on),
  )

  settled_after : (j : ℕ) (t : State) → IsSettled s.starts j t → IsSettled ends.0 j (after q (found_of graph s q) t)
  settled_after j Unseen never = never
  settled_after j (Done b) all = tt
  settled_after j (Open p) back = elim (cases_lt p q) [
    | inl lt ↦ subst (IsSettled ends.0 j) (sym (before_close q p (found_of graph s q) lt)) (λ r has le. back r (subst (λ (l : List ℕ). Contains l r) (sym ends.1) (Contains-append_left ends.0 (q ∷ []) r has)) le)
    | inr ge ↦ rw (le-leb q p ge) tt
  ]

  pub closed_keeps : IsSearch graph closed
  closed_keeps =
      let w = within in
      let n = long in
      let rises = subst Rising ends.1 h.rising in
      record {
        as_long = length-all_done (found_of graph s q) (drop q s.path) s.states ∙ h.as_long;
        on_path = λ p lt.
            let below : p < q = omega arith in
            ap (state_at closed.states) (old_at p below) ∙ state_of (node s p) ∙ ap (after q (found_of graph s q)) (h.on_path p (omega arith)) ∙ before_close q p (found_of graph s q) below;
        places = λ v p e.
            let o = after_open q (found_of graph s q) (state_at s.states v) p (sym (state_of v) ∙ e) in
            let r = h.places v p o.0 in
            let below = o.1 in
            (omega arith, old_at p o.1 ∙ r.1);
        exact = λ v b e. elim (after_done q (found_of graph s q) (state_at s.states v) b (sym (state_of v) ∙ e)) [
          | inl was ↦ h.exact v b was
          | inr r ↦ exact_after v b r.0 r.1 r.2 r.3
        ];
        onward = λ i j le lt.
            let below : j < q = omega arith in
            let lower : i < q = omega arith in
            reach_same graph (get_or (take q s.path) i 0) (node s i) (get_or (take q s.path) j 0) (node s j) (old_at i lower) (old_at j below) (h.onward i j le (omega arith));
        back = λ y lt.
            let below : suc y < q = omega arith in
            let lower : y < q = omega arith in
            elim (h.back y (omega arith)) [
              | inl start ↦ elim (start_or (suc y) start) [
                | inl has ↦ inl has
                | inr e ↦ absurd (omega arith)
              ]
              | inr r ↦ inr (reach_same graph (get_or (take q s.path) (suc y) 0) (node s (suc y)) (get_or (take q s.path) y 0) (node s y) (old_at (suc y) below) (old_at y lower) r)
            ];
        known = λ j e lt has.
            let below : j < q = omega arith in
            elim (h.known j e (omega arith) (subst (λ (v : ℕ). Contains (edges_from graph v) e) (old_at j below) has)) [
              | inl pending ↦ inl pending
              | inr is ↦ inr (subst (IsSettled ends.0 j) (sym (state_of e.to)) (settled_after j (state_at s.states e.to) is))
            ];
        real = λ x has.
            let r = h.real x has in
            let below = low x has in
            (omega arith, subst (λ (v : ℕ). Contains (edges_from graph v) x.edge) (sym (old_at x.at below)) r.1);
        sorted = h.sorted;
        rising = rising_front ends.0 q rises;
        starts_in = λ p has. let lt = rising_last ends.0 q rises p has in omega arith;
        first = λ lt. elim (start_or 0 (h.first (omega arith))) [
          | inl has ↦ has
          | inr e ↦ absurd (omega arith)
        ];
      }

-- What the steps of a search keep.
use Rattle.std.proofs.Common.{◌≡◌, ℕ, suc, ◌≤◌, ◌<◌, false, inl, inr, List, [], ◌∷◌, ◌++◌, length, map, refl, ap, ◌∙◌, sym, subst, arith, length-append, get_or-set_same, get_or-set_other}
use Rattle.std.specs.List.{Contains}
use Rattle.std.proofs.lemmas.Bool.{cases_lt, cases_eq}
use Rattle.std.proofs.lemmas.List.{get_or_append_left, length-set}
use Rattle.std.proofs.lemmas.List.Elements.{Contains-append_left, Contains-append_right, Contains-append_cases, Contains-push, Contains-push_cases}
use Rattle.std.proofs.Math.Seq.{get_or-append_seam}
use Rattle.closed_walks.specs.declared.graph.Edge.{Edge}
use Rattle.closed_walks.specs.declared.search.State.{State}
use Rattle.closed_walks.specs.declared.search.State.TheVariants.{Unseen, Open, Done}
use Rattle.closed_walks.specs.declared.search.Pending.{Pending}
use Rattle.closed_walks.specs.declared.search.Search.{Search}
use Rattle.closed_walks.specs.Walks.{edges_from}
use Rattle.closed_walks.specs.Search.{state_at, pending_at, entered}
use Rattle.closed_walks.specs.Invariant.{IsSearch, IsSettled, IsCut, Reaches, with_pending}
use Rattle.closed_walks.proofs.Lists.{map_in, map_from, removed_in, removed_or}
use Rattle.closed_walks.proofs.Orders.{sorted_removed, sorted_append, sorted_map, rising_push}
use Rattle.closed_walks.proofs.Reach.{reach_refl, reach_trans, reach_edge, reach_same}
use Rattle.closed_walks.proofs.States.{unseen_within}
use Rattle.closed_walks.proofs.Parts.{node, up}

-- an unseen node is put at the end of the path
module _ (graph : List (List Edge)) (s : Search) (h : IsSearch graph s) (v : ℕ) (unseen : state_at s.states v ≡ Unseen) where
  pub state_here : state_at (entered graph v s).states v ≡ Open (length s.path)
  state_here = get_or-set_same s.states v (Open (length s.path)) (Done false) (unseen_within s.states v unseen)

  pub state_other : (u : ℕ) → (u ≡ v → ⊥) → state_at (entered graph v s).states u ≡ state_at s.states u
  state_other u other = get_or-set_other s.states v u (Open (length s.path)) (Done false) other

  fresh : (u : ℕ) (t : State) → state_at s.states u ≡ t → (t ≡ Unseen → ⊥) → u ≡ v → ⊥
  fresh u t is seen e = seen (sym is ∙ ap (state_at s.states) e ∙ unseen)

  old_node : (j : ℕ) → j < length s.path → node (entered graph v s) j ≡ node s j
  old_node j lt = get_or_append_left s.path (v ∷ []) 0 j lt

  new_node : (j : ℕ) → j ≡ length s.path → node (entered graph v s) j ≡ v
  new_node j e = ap (node (entered graph v s)) e ∙ get_or-append_seam s.path v [] 0

  longer : length (entered graph v s).path ≡ suc (length s.path)
  longer = let l = length-append s.path (v ∷ []) in omega arith

  settled_then : (j : ℕ) → j < length s.path → (t : State) → IsSettled s.starts j t → IsSettled (entered graph v s).starts j t
  settled_then j lt Unseen never = never
  settled_then j lt (Done b) all = tt
  settled_then j lt (Open p) back = λ q has le. elim (Contains-push_cases s.starts (length s.path) q has) [
    | inl was ↦ back q was le
    | inr e ↦ absurd (omega arith)
  ]

  settled_still : (j : ℕ) (u : ℕ) → j < length s.path → IsSettled s.starts j (state_at s.states u) → IsSettled (entered graph v s).starts j (state_at (entered graph v s).states u)
  settled_still j u lt is = elim (cases_eq u v) [
    | inl e ↦ absurd (let never : IsSettled s.starts j Unseen = subst (IsSettled s.starts j) (ap (state_at s.states) e ∙ unseen) is in never)
    | inr other ↦ subst (IsSettled (entered graph v s).starts j) (sym (state_other u other)) (settled_then j lt (state_at s.states u) is)
  ]

  pub settled_new : (j : ℕ) → j < length s.path → IsSettled (entered graph v s).starts j (state_at (entered graph v s).states v)
  settled_new j lt = subst (IsSettled (entered graph v s).starts j) (sym state_here) (λ q has le. omega arith)

  pub entered_keeps : ((i : ℕ) → i < length s.path → Reaches graph (node s i) v) → IsSearch graph (entered graph v s)
  entered_keeps to_here =
      let n = length s.path in
      let new = entered graph v s in
      let long : length new.path ≡ suc (length s.path) = longer in
      record {
        as_long = length-set s.states v (Open n) ∙ h.as_long;
        on_path = λ p lt. elim (cases_lt p n) [
          | inl below ↦ ap (state_at new.states) (old_node p below) ∙ state_other (node s p) (fresh (node s p) (Open p) (h.on_path p below) (λ e. cc)) ∙ h.on_path p below
          | inr ge ↦ let e : p ≡ length s.path = omega arith in ap (state_at new.states) (new_node p e) ∙ state_here ∙ ap Open (sym e)
        ];
        places = λ u p is. elim (cases_eq u v) [
          | inl e ↦
              let o : Open (length s.path) ≡ Open p = sym state_here ∙ ap (state_at new.states) (sym e) ∙ is in
              let same : length s.path ≡ p = cc in
              (omega arith, new_node p (sym same) ∙ sym e)
          | inr other ↦ let r = h.places u p (sym (state_other u other) ∙ is) in let below = r.0 in (omega arith, old_node p r.0 ∙ r.1)
        ];
        exact = λ u b is. elim (cases_eq u v) [
          | inl e ↦ absurd (let o : Open (length s.path) ≡ Done b = sym state_here ∙ ap (state_at new.states) (sym e) ∙ is in cc)
          | inr other ↦ h.exact u b (sym (state_other u other) ∙ is)
        ];
        onward = λ i j le lt. elim (cases_lt j n) [
          | inl below ↦ let lower : i < length s.path = omega arith in reach_same graph (node new i) (node s i) (node new j) (node s j) (old_node i lower) (old_node j below) (h.onward i j le below)
          | inr ge ↦
              let e : j ≡ length s.path = omega arith in
              elim (cases_lt i n) [
                | inl lower ↦ reach_same graph (node new i) (node s i) (node new j) v (old_node i lower) (new_node j e) (to_here i lower)
                | inr last ↦ let f : i ≡ j = omega arith in reach_refl graph (node new i) (node new j) (ap (node new) f)
              ]
        ];
        back = λ y lt. elim (cases_lt (suc y) n) [
          | inl below ↦
              let lower : y < length s.path = omega arith in
              elim (h.back y below) [
                | inl start ↦ inl (Contains-append_left s.starts (n ∷ []) (suc y) start)
                | inr r ↦ inr (reach_same graph (node new (suc y)) (node s (suc y)) (node new y) (node s y) (old_node (suc y) below) (old_node y lower) r)
              ]
          | inr ge ↦ let e : length s.path ≡ suc y = omega arith in inl (subst (λ (k : ℕ). Contains new.starts k) e (Contains-push s.starts n))
        ];
        known = λ j e lt has. elim (cases_lt j n) [
          | inl below ↦ elim (h.known j e below (subst (λ (k : ℕ). Contains (edges_from graph k) e) (old_node j below) has)) [
            | inl pending ↦ inl (Contains-append_left s.pending (map (pending_at n) (edges_from graph v)) (pending_at j e) pending)
            | inr is ↦ inr (settled_still j e.to below is)
          ]
          | inr ge ↦
              let at : length s.path ≡ j = omega arith in
              let here = map_in (pending_at n) (edges_from graph v) e (subst (λ (k : ℕ). Contains (edges_from graph k) e) (new_node j (sym at)) has) in
              inl (subst (λ (k : ℕ). Contains new.pending (pending_at k e)) at (Contains-append_right s.pending (map (pending_at n) (edges_from graph v)) (pending_at n e) here))
        ];
        real = λ x has. elim (Contains-append_cases s.pending (map (pending_at n) (edges_from graph v)) x has) [
          | inl was ↦ let r = h.real x was in let below = r.0 in (omega arith, subst (λ (k : ℕ). Contains (edges_from graph k) x.edge) (sym (old_node x.at below)) r.1)
          | inr made ↦
              let r = map_from (pending_at n) (edges_from graph v) x made in
              let at : x.at ≡ length s.path = ap (λ (y : Pending). y.at) (sym r.2) in
              let edge : r.0 ≡ x.edge = ap (λ (y : Pending). y.edge) r.2 in
              (omega arith, subst (λ (k : ℕ). Contains (edges_from graph k) x.edge) (sym (new_node x.at at)) (subst (λ (d : Edge). Contains (edges_from graph v) d) edge r.1))
        ];
        sorted = sorted_append s.pending (map (pending_at n) (edges_from graph v)) h.sorted (sorted_map n (edges_from graph v)) (λ x y was made.
            let r = h.real x was in
            let below = r.0 in
            let m = map_from (pending_at n) (edges_from graph v) y made in
            let at : length s.path ≡ y.at = ap (λ (z : Pending). z.at) m.2 in
            omega arith);
        rising = rising_push s.starts n h.rising h.starts_in;
        starts_in = λ q has. elim (Contains-push_cases s.starts n q has) [
          | inl was ↦ let below = h.starts_in q was in omega arith
          | inr e ↦ omega arith
        ];
        first = λ lt. elim (cases_eq n 0) [
          | inl e ↦ subst (λ (k : ℕ). Contains new.starts k) e (Contains-push s.starts n)
          | inr more ↦ Contains-append_left s.starts (n ∷ []) 0 (h.first (omega arith))
        ];
      }

-- a pending edge is left out that was followed
pub removed_keeps : (graph : List (List Edge)) (s : Search) (xs ys : List Pending) (x : Pending) → IsSearch graph (with_pending s (xs ++ (x ∷ ys))) → IsSettled s.starts x.at (state_at s.states x.edge.to) → IsSearch graph (with_pending s (xs ++ ys))
removed_keeps graph s xs ys x h is = record {
  as_long = h.as_long;
  on_path = h.on_path;
  places = h.places;
  exact = h.exact;
  onward = h.onward;
  back = h.back;
  known = λ j e lt has. elim (h.known j e lt has) [
    | inl pending ↦ elim (removed_or xs ys x (pending_at j e) pending) [
      | inl same ↦ inr (subst (λ (y : Pending). IsSettled s.starts y.at (state_at s.states y.edge.to)) same is)
      | inr rest ↦ inl rest
    ]
    | inr settled ↦ inr settled
  ];
  real = λ y has. h.real y (removed_in xs ys x y has);
  sorted = sorted_removed xs ys x h.sorted;
  rising = h.rising;
  starts_in = h.starts_in;
  first = h.first;
}

-- parts are joined, where an edge of the last one leads back to the place p
module _ (graph : List (List Edge)) (s : Search) (xs : List Pending) (x : Pending) (h : IsSearch graph (with_pending s (xs ++ x ∷ []))) (most : (q : ℕ) → Contains s.starts q → q ≤ x.at)
    (p : ℕ) (is : state_at s.states x.edge.to ≡ Open p) (new : List ℕ) (cut : IsCut p s.starts new) where
  settled_cut : (j : ℕ) (t : State) → IsSettled s.starts j t → IsSettled new j t
  settled_cut j Unseen never = never
  settled_cut j (Done b) all = tt
  settled_cut j (Open r) back = λ q has le. back q (cut.was q has) le

  -- the edge leads back to all behind p
  turn : (y : ℕ) → p < suc y → suc y < length s.path → Reaches graph (node s (suc y)) (node s y)
  turn y from inside =
      let full = with_pending s (xs ++ x ∷ []) in
      let r = h.real x (Contains-push xs x) in
      let w = h.places x.edge.to p is in
      reach_trans graph (node s (suc y)) (node s x.at) (node s y) (up graph full h x.at r.0 most (suc y) inside)
      (reach_trans graph (node s x.at) x.edge.to (node s y) (reach_edge graph (node s x.at) x.edge r.1)
      (reach_same graph x.edge.to (node s p) (node s y) (node s y) (sym w.1) refl (h.onward p y (omega arith) (omega arith))))

  joined_keeps : IsSearch graph (record s { starts = new; pending = xs ++ x ∷ [] })
  joined_keeps = record {
    as_long = h.as_long;
    on_path = h.on_path;
    places = h.places;
    exact = h.exact;
    onward = h.onward;
    back = λ y lt. elim (h.back y lt) [
      | inl start ↦ elim (cases_lt p (suc y)) [
        | inl past ↦ inr (turn y past lt)
        | inr le ↦ inl (cut.kept (suc y) start le)
      ]
      | inr r ↦ inr r
    ];
    known = λ j e lt has. elim (h.known j e lt has) [
      | inl pending ↦ inl pending
      | inr settled ↦ inr (settled_cut j (state_at s.states e.to) settled)
    ];
    real = h.real;
    sorted = h.sorted;
    rising = cut.rising;
    starts_in = λ q has. h.starts_in q (cut.was q has);
    first = λ lt. cut.kept 0 (h.first lt) (omega arith);
  }

  pub joined_then : IsSearch graph (record s { starts = new; pending = xs ++ [] })
  joined_then = removed_keeps graph (record s { starts = new }) xs [] x joined_keeps (subst (IsSettled new x.at) (sym is) (λ q has le. cut.within q has))

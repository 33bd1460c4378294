-- The beginning and the end of a search.
use Rattle.std.proofs.Common.{◌≡◌, ℕ, ◌+◌, ◌≤◌, ◌<◌, Bool, true, false, ◌↔◌, IsTrue, inl, inr, List, [], ◌∷◌, length, map, replicate, Some, refl, ap, ◌∙◌, sym, subst, arith, unwrap_or}
use Rattle.std.specs.List.{list_any, Contains}
use Rattle.std.proofs.Math.ListN.{get_or-eq_default}
use Rattle.std.proofs.lemmas.Bool.{cases_lt}
use Rattle.std.proofs.lemmas.List.{length-map, length-replicate, get_or-replicate}
use Rattle.std.proofs.lemmas.Option.{slice_get_past, slice_get_within, slice_get-get_or, slice_get-map}
use Rattle.std.specs.Option.{option_map}
use Rattle.closed_walks.specs.declared.graph.Edge.{Edge}
use Rattle.closed_walks.specs.declared.search.State.{State}
use Rattle.closed_walks.specs.declared.search.State.TheVariants.{Unseen, Open, Done}
use Rattle.closed_walks.specs.declared.search.Search.{Search}
use Rattle.closed_walks.specs.Walks.{edges_from, IsWalk, GoesOn, AreFound}
use Rattle.closed_walks.specs.Search.{state_at, begun, entered, answer}
use Rattle.closed_walks.specs.Invariant.{IsSearch}
use Rattle.closed_walks.proofs.Lists.{none_in}
use Rattle.closed_walks.proofs.Keeps.{entered_keeps}

no_walk : (graph : List (List Edge)) (v : ℕ) (es : List Edge) (z : ℕ) → edges_from graph v ≡ [] → IsWalk graph v es z → (es ≡ []) × (v ≡ z)
no_walk graph v [] z e w = (refl, w)
no_walk graph v (x ∷ xs) z e w = absurd (none_in x (subst (λ (l : List Edge). Contains l x) e w.0))

-- what is no node leads nowhere
pub nowhere : (graph : List (List Edge)) (v : ℕ) → length graph ≤ v → GoesOn graph v → ⊥
nowhere graph v past on =
    let none : edges_from graph v ≡ [] = ap (λ o. unwrap_or o []) (slice_get_past graph v past) in
    let here = no_walk graph v on.before on.turn none on.leads in
    let again = no_walk graph v on.round on.turn none (subst (λ (n : ℕ). IsWalk graph n on.round on.turn) (sym here.1) on.closes) in
    let f : false ≡ true = sym (ap (list_any (λ (e : Edge). e.marked)) again.0) ∙ on.has_marked in
    cc

begun_state : (n v : ℕ) → v < n → state_at (replicate n Unseen) v ≡ Unseen
begun_state n v lt = get_or-replicate n v Unseen (Done false) lt

begun_past : (n v : ℕ) → n ≤ v → state_at (replicate n Unseen) v ≡ Done false
begun_past n v ge = get_or-eq_default (replicate n Unseen) (Done false) (let l = length-replicate n Unseen in omega arith)

pub begun_keeps : (graph : List (List Edge)) → IsSearch graph (begun (length graph))
begun_keeps graph =
    let n = length graph in
    record {
      as_long = length-replicate n Unseen;
      on_path = λ p lt. absurd (let l : p < 0 = lt in omega arith);
      places = λ v p is. elim (cases_lt v n) [
        | inl lt ↦ absurd (let f : Unseen ≡ Open p = sym (begun_state n v lt) ∙ is in cc)
        | inr ge ↦ absurd (let f : Done false ≡ Open p = sym (begun_past n v ge) ∙ is in cc)
      ];
      exact = λ v b is. elim (cases_lt v n) [
        | inl lt ↦ absurd (let f : Unseen ≡ Done b = sym (begun_state n v lt) ∙ is in cc)
        | inr ge ↦
            let f : Done false ≡ Done b = sym (begun_past n v ge) ∙ is in
            let same : false ≡ b = cc in
            (λ t. absurd (let g : false ≡ true = same ∙ t in cc), λ on. absurd (nowhere graph v ge on))
      ];
      onward = λ i j le lt. absurd (let l : j < 0 = lt in omega arith);
      back = λ y lt. absurd (let l : y < 0 = (let m : y + 1 ≤ 0 = omega arith in omega arith) in omega arith);
      known = λ j e lt has. absurd (let l : j < 0 = lt in omega arith);
      real = λ x has. absurd (none_in x has);
      sorted = tt;
      rising = tt;
      starts_in = λ q has. absurd (none_in q has);
      first = λ lt. absurd (let l : 0 < 0 = lt in omega arith);
    }

-- where nothing is open, and each node was seen, what is found is so
pub all_found : (graph : List (List Edge)) (s : Search) → IsSearch graph s → s.starts ≡ [] → ((n : ℕ) → n < length graph → state_at s.states n ≡ Unseen → ⊥) → AreFound graph (map answer s.states)
all_found graph s h idle seen = record {
  as_long = length-map s.states answer ∙ h.as_long;
  each = λ n b is.
      let l = h.as_long in
      let m = length-map s.states answer in
      let w = slice_get_within (map answer s.states) n b is in
      let inside : n < length s.states = omega arith in
      let there : Some (answer (state_at s.states n)) ≡ Some b = sym (slice_get-map answer s.states n ∙ ap (option_map answer) (slice_get-get_or s.states n (Done false) inside)) ∙ is in
      by n b (omega arith) (state_at s.states n) refl (let e : answer (state_at s.states n) ≡ b = cc in e);
}
  where
    none_open : (n p : ℕ) → state_at s.states n ≡ Open p → ⊥
    none_open n p is =
        let lt = (h.places n p is).0 in
        none_in 0 (subst (λ (l : List ℕ). Contains l 0) idle (h.first (omega arith)))

    by : (n : ℕ) (b : Bool) → n < length graph → (t : State) → state_at s.states n ≡ t → answer t ≡ b → IsTrue b ↔ GoesOn graph n
    by n b lt Unseen is e = absurd (seen n lt is)
    by n b lt (Open p) is e = absurd (none_open n p is)
    by n b lt (Done c) is e = subst (λ (d : Bool). IsTrue d ↔ GoesOn graph n) e (h.exact n c is)

-- the first node of a search
pub first_keeps : (graph : List (List Edge)) (s : Search) (h : IsSearch graph s) → s.starts ≡ [] → (v : ℕ) → state_at s.states v ≡ Unseen → IsSearch graph (entered graph v s)
first_keeps graph s h idle v unseen = entered_keeps graph s h v unseen (λ i lt. absurd (none_in 0 (subst (λ (l : List ℕ). Contains l 0) idle (h.first (omega arith)))))

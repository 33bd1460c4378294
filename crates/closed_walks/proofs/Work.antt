-- How much a search has still to do, and that what was seen stays so.
use Rattle.std.proofs.Common.{◌≡◌, ℕ, zero, suc, ◌+◌, ◌≤◌, ◌<◌, Bool, inl, inr, List, [], ◌∷◌, ◌++◌, length, map, set, drop, refl, ap, ap₂, ◌∙◌, sym, subst, arith, length-append, append_assoc, append-nil}
use Rattle.std.specs.List.{Contains}
use Rattle.std.proofs.lemmas.Bool.{cases_eq}
use Rattle.std.proofs.lemmas.List.{length-map}
use Rattle.std.proofs.lemmas.List.Elements.{Contains-push}
use Rattle.closed_walks.specs.declared.graph.Edge.{Edge}
use Rattle.closed_walks.specs.declared.search.State.{State}
use Rattle.closed_walks.specs.declared.search.State.TheVariants.{Unseen, Open, Done}
use Rattle.closed_walks.specs.declared.search.Pending.{Pending}
use Rattle.closed_walks.specs.declared.search.Search.{Search}
use Rattle.closed_walks.specs.Walks.{edges_from}
use Rattle.closed_walks.specs.Search.{state_at, pending_at, entered, all_done, EndsWith, EndsBelow, IsClosed}
use Rattle.closed_walks.specs.Invariant.{IsSearch, IsSettled, IsCut, Goes, need, unseen_work, with_pending}
use Rattle.closed_walks.proofs.Orders.{all_below}
use Rattle.closed_walks.proofs.Reach.{reach_trans, reach_edge}
use Rattle.closed_walks.proofs.States.{unseen_within, after_unseen}
use Rattle.closed_walks.proofs.Keeps.{entered_keeps, removed_keeps, settled_new, joined_then, state_other}
use Rattle.closed_walks.proofs.Parts.{node, up, found_of, closed, closed_keeps, state_of}

abbrev made_of : List State → List ℕ → List ℕ → List Pending → Search
made_of states path starts pending = record { states = states; path = path; starts = starts; pending = pending }

same_search : (a b : Search) → a.states ≡ b.states → a.path ≡ b.path → a.starts ≡ b.starts → a.pending ≡ b.pending → a ≡ b
same_search a b states path starts pending =
    ap₂ (λ x y. made_of x y a.starts a.pending) states path ∙ ap₂ (λ x y. made_of b.states b.path x y) starts pending

entered_work : (graph : List (List Edge)) (states : List State) (v n : ℕ) → length states ≡ length graph → state_at states v ≡ Unseen
    → unseen_work graph (set states v (Open n)) + length (edges_from graph v) + 2 ≤ unseen_work graph states
entered_work [] states v n long is = absurd (let lt = unseen_within states v is in let none : length states ≡ 0 = long in omega arith)
entered_work (es ∷ graph) [] v n long is = absurd (let lt : v < 0 = unseen_within [] v is in omega arith)
entered_work (es ∷ graph) (s ∷ states) zero n long is = let e : s ≡ Unseen = is in let cost : need es s ≡ length es + 2 = ap (need es) e in omega arith
entered_work (es ∷ graph) (s ∷ states) (suc v) n long is =
    let rest = entered_work graph states v n (let l : suc (length states) ≡ suc (length graph) = long in omega arith) is in
    omega arith

done_work : (graph : List (List Edge)) (states : List State) (v : ℕ) (found : Bool) → unseen_work graph (set states v (Done found)) ≤ unseen_work graph states
done_work [] states v found = omega arith
done_work (es ∷ graph) [] v found = omega arith
done_work (es ∷ graph) (s ∷ states) zero found = omega arith
done_work (es ∷ graph) (s ∷ states) (suc v) found = let rest = done_work graph states v found in omega arith

all_done_work : (graph : List (List Edge)) (found : Bool) (ns : List ℕ) (states : List State) → unseen_work graph (all_done found ns states) ≤ unseen_work graph states
all_done_work graph found [] states = omega arith
all_done_work graph found (n ∷ ns) states =
    let one = done_work graph (all_done found ns states) n found in
    let rest = all_done_work graph found ns states in
    omega arith

pub entered_seen : (graph : List (List Edge)) (s : Search) (h : IsSearch graph s) (v : ℕ) (unseen : state_at s.states v ≡ Unseen) (u : ℕ) → state_at (entered graph v s).states u ≡ Unseen → state_at s.states u ≡ Unseen
entered_seen graph s h v unseen u is = elim (cases_eq u v) [
  | inl e ↦ ap (state_at s.states) e ∙ unseen
  | inr other ↦ sym (state_other graph s h v unseen u other) ∙ is
]

-- the three ways of an edge that was pending
module _ (graph : List (List Edge)) (s : Search) (x : Pending) (h : IsSearch graph (with_pending s (s.pending ++ x ∷ []))) (most : (q : ℕ) → Contains s.starts q → q ≤ x.at) where
  abbrev pub full : Search
  full = with_pending s (s.pending ++ x ∷ [])

  pub goes_enter : state_at s.states x.edge.to ≡ Unseen → Goes graph full (entered graph x.edge.to s)
  goes_enter is =
      let v = x.edge.to in
      let made = map (pending_at (length s.path)) (edges_from graph v) in
      let r = h.real x (Contains-push s.pending x) in
      let there = λ (i : ℕ) (lt : i < length s.path). reach_trans graph (node s i) (node s x.at) v (up graph full h x.at r.0 most i lt) (reach_edge graph (node s x.at) x.edge r.1) in
      let whole = entered_keeps graph full h v is there in
      let shaped = subst (λ (l : List Pending). IsSearch graph (with_pending (entered graph v s) l)) (append_assoc s.pending (x ∷ []) made) whole in
      record {
        known = removed_keeps graph (entered graph v s) s.pending made x shaped (settled_new graph full h v is x.at r.0);
        less =
            let w = entered_work graph s.states v (length s.path) h.as_long is in
            let a = length-append s.pending made in
            let b = length-map (edges_from graph v) (pending_at (length s.path)) in
            let c = length-append s.pending (x ∷ []) in
            let d = length-append s.starts (length s.path ∷ []) in
            omega arith;
        stays = entered_seen graph full h v is;
      }

  pub goes_join : (p : ℕ) → state_at s.states x.edge.to ≡ Open p → (new : List ℕ) → IsCut p s.starts new → Goes graph full (record s { starts = new })
  goes_join p is new cut = record {
    known = subst (λ (l : List Pending). IsSearch graph (record s { starts = new; pending = l })) (append-nil s.pending) (joined_then graph s s.pending x h most p is new cut);
    less = let c = length-append s.pending (x ∷ []) in let short = cut.shorter in omega arith;
    stays = λ n is. is;
  }

  pub goes_on : (b : Bool) → state_at s.states x.edge.to ≡ Done b → Goes graph full s
  goes_on b is = record {
    known = subst (λ (l : List Pending). IsSearch graph (with_pending s l)) (append-nil s.pending) (removed_keeps graph s s.pending [] x h (subst (IsSettled s.starts x.at) (sym is) tt));
    less = let c = length-append s.pending (x ∷ []) in omega arith;
    stays = λ n is. is;
  }

pub goes_close : (graph : List (List Edge)) (s new : Search) → IsSearch graph s → (q : ℕ) → EndsBelow q s.pending → IsClosed graph q s new → Goes graph s new
goes_close graph s new h q below c =
    let low = all_below q s.pending h.sorted below in
    let ends : EndsWith s.starts q = (new.starts, c.starts) in
    let same : closed graph s h q ends low ≡ new = same_search (closed graph s h q ends low) new (sym c.states) (sym c.path) refl (sym c.pending) in
    record {
      known = subst (IsSearch graph) same (closed_keeps graph s h q ends low);
      less =
          let w : unseen_work graph new.states ≤ unseen_work graph s.states = subst (λ (l : List State). unseen_work graph l ≤ unseen_work graph s.states) (sym c.states) (all_done_work graph (found_of graph s q) (drop q s.path) s.states) in
          let a = ap length c.starts in
          let b = length-append new.starts (q ∷ []) in
          let p = ap length c.pending in
          omega arith;
      stays = λ n is. after_unseen q (found_of graph s q) (state_at s.states n) (sym (state_of graph s h q ends low n) ∙ sym (ap (λ (l : List State). state_at l n) c.states) ∙ is);
    }

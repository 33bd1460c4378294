-- Walks that go on.
use Rattle.std.proofs.Common.{◌≡◌, ℕ, List, [], ◌∷◌, ◌++◌, refl, sym, subst}
use Rattle.std.specs.List.{Contains}
use Rattle.closed_walks.specs.declared.graph.Edge.{Edge}
use Rattle.closed_walks.specs.Walks.{edges_from, IsWalk, GoesOn}
use Rattle.closed_walks.specs.Invariant.{Reaches}

module _ (graph : List (List Edge)) where
  pub walk-append : (xs : List Edge) (a b : ℕ) (ys : List Edge) (c : ℕ) → IsWalk graph a xs b → IsWalk graph b ys c → IsWalk graph a (xs ++ ys) c
  walk-append [] a b ys c e w = subst (λ (n : ℕ). IsWalk graph n ys c) (sym e) w
  walk-append (x ∷ xs) a b ys c v w = (v.0, walk-append xs x.to b ys c v.1 w)

  pub reach_refl : (a b : ℕ) → a ≡ b → Reaches graph a b
  reach_refl a b e = ([], e)

  pub reach_trans : (a b c : ℕ) → Reaches graph a b → Reaches graph b c → Reaches graph a c
  reach_trans a b c r s = (r.0 ++ s.0, walk-append r.0 a b s.0 c r.1 s.1)

  pub reach_same : (a b c d : ℕ) → a ≡ b → c ≡ d → Reaches graph b d → Reaches graph a c
  reach_same a b c d e f r = (r.0, subst (λ (n : ℕ). IsWalk graph n r.0 c) (sym e) (subst (λ (n : ℕ). IsWalk graph b r.0 n) (sym f) r.1))

  pub reach_edge : (a : ℕ) (e : Edge) → Contains (edges_from graph a) e → Reaches graph a e.to
  reach_edge a e h = (e ∷ [], (h, refl))

  pub goes_on_from : (a b : ℕ) → Reaches graph a b → GoesOn graph b → GoesOn graph a
  goes_on_from a b r on = record {
    turn = on.turn;
    before = r.0 ++ on.before;
    leads = walk-append r.0 a b on.before on.turn r.1 on.leads;
    round = on.round;
    closes = on.closes;
    has_marked = on.has_marked;
  }

  pub goes_on_round : (on : ℕ) → (g : GoesOn graph on) → GoesOn graph g.turn
  goes_on_round n g = record { turn = g.turn; before = []; leads = refl; round = g.round; closes = g.closes; has_marked = g.has_marked }

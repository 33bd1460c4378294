-- Walks of a graph.
use Rattle.std.specs.Prelude.{◌≡◌, ◌↔◌, ℕ, Bool, true, List, [], ◌∷◌, length, Contains, Some, slice_get, unwrap_or, IsTrue}
use Rattle.std.specs.List.{list_any}
use Rattle.closed_walks.specs.declared.graph.Edge.{Edge}

-- the edges that go from a node: none from what is no node
abbrev pub edges_from : List (List Edge) → ℕ → List Edge
edges_from graph node = unwrap_or (slice_get graph node) []

-- a walk is a list of edges, each beginning where the one before it ends
abbrev pub IsWalk : List (List Edge) → ℕ → List Edge → ℕ → Type 0
IsWalk graph start [] end = start ≡ end
IsWalk graph start (e ∷ es) end = Contains (edges_from graph start) e × IsWalk graph e.to es end

-- a walk from the node goes on into a closed walk with a marked edge
pub record GoesOn (graph : List (List Edge)) (node : ℕ) : Type 0 where
  pub turn : ℕ
  pub before : List Edge
  pub leads : IsWalk graph node before turn
  pub round : List Edge
  pub closes : IsWalk graph turn round turn
  pub has_marked : list_any (λ e. e.marked) round ≡ true

-- one answer for each node: whether it goes on so
pub record AreFound (graph : List (List Edge)) (found : List Bool) : Type 0 where
  pub as_long : length found ≡ length graph
  pub each : (node : ℕ) (b : Bool) → slice_get found node ≡ Some b → IsTrue b ↔ GoesOn graph node

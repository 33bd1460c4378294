-- What the steps of a search do.
use Rattle.std.specs.Prelude.{◌≡◌, ℕ, ◌<◌, Bool, false, List, [], ◌∷◌, ◌++◌, length, map, take, drop, replicate, slice_index_or, slice_set}
use Rattle.std.specs.List.{list_any}
use Rattle.closed_walks.specs.Walks.{edges_from}
use Rattle.closed_walks.specs.declared.graph.Edge.{Edge}
use Rattle.closed_walks.specs.declared.search.State.{State}
use Rattle.closed_walks.specs.declared.search.State.TheVariants.{Unseen, Open, Done}
use Rattle.closed_walks.specs.declared.search.Pending.{Pending}
use Rattle.closed_walks.specs.declared.search.Search.{Search}

-- what is no node leads nowhere
abbrev pub state_at : List State → ℕ → State
state_at states node = slice_index_or states node (Done false)

abbrev pub pending_at : ℕ → Edge → Pending
pending_at place e = record { at = place; edge = e }

abbrev pub begun : ℕ → Search
begun nodes = record { states = replicate nodes Unseen; path = []; starts = []; pending = [] }

-- a node stands at the end of the path, as a part by itself
abbrev pub entered : List (List Edge) → ℕ → Search → Search
entered graph node s = record {
  states = slice_set s.states node (Open (length s.path));
  path = s.path ++ node ∷ [];
  starts = s.starts ++ length s.path ∷ [];
  pending = s.pending ++ map (pending_at (length s.path)) (edges_from graph node);
}

abbrev pub EndsWith : List ℕ → ℕ → Type 0
EndsWith xs x = (front : List ℕ) × (xs ≡ front ++ x ∷ [])

-- no last edge is pending at `start` or behind it
abbrev pub EndsBelow : ℕ → List Pending → Type 0
EndsBelow start xs = (front : List Pending) (x : Pending) → xs ≡ front ++ x ∷ [] → x.at < start

-- an edge from a part shows that its nodes go on into a closed walk with a marked edge
abbrev pub leads : Bool → State → Bool
leads marked Unseen = false
leads marked (Open place) = marked
leads marked (Done found) = found

abbrev pub edge_leads : List State → Edge → Bool
edge_leads states e = leads e.marked (state_at states e.to)

abbrev pub part_leads : List (List Edge) → List State → List ℕ → Bool
part_leads graph states nodes = list_any (λ n. list_any (edge_leads states) (edges_from graph n)) nodes

-- all these nodes are done, the last one first
abbrev pub all_done : Bool → List ℕ → List State → List State
all_done found [] states = states
all_done found (n ∷ ns) states = slice_set (all_done found ns states) n (Done found)

-- the last part of the path, which starts at that place, is done
pub record IsClosed (graph : List (List Edge)) (place : ℕ) (old new : Search) : Type 0 where
  pub states : new.states ≡ all_done (part_leads graph old.states (drop place old.path)) (drop place old.path) old.states
  pub path : new.path ≡ take place old.path
  pub starts : old.starts ≡ new.starts ++ place ∷ []
  pub pending : new.pending ≡ old.pending

-- what was seen stays so, and the node is seen
pub record AllSeen (old new : List State) (node : ℕ) : Type 0 where
  pub stays : (n : ℕ) → state_at new n ≡ Unseen → state_at old n ≡ Unseen
  pub here : state_at new node ≡ Unseen → ⊥

abbrev pub answer : State → Bool
answer Unseen = false
answer (Open place) = false
answer (Done found) = found

-- What holds between two steps of a search.
use Rattle.std.specs.Prelude.{◌≡◌, ◌↔◌, ◌⊎◌, ℕ, suc, ◌+◌, ◌<◌, ◌≤◌, Bool, List, [], ◌∷◌, length, Contains, IsTrue, slice_index}
use Rattle.closed_walks.specs.Walks.{edges_from, IsWalk, GoesOn}
use Rattle.closed_walks.specs.Search.{state_at, pending_at}
use Rattle.closed_walks.specs.declared.graph.Edge.{Edge}
use Rattle.closed_walks.specs.declared.search.State.{State}
use Rattle.closed_walks.specs.declared.search.State.TheVariants.{Unseen, Open, Done}
use Rattle.closed_walks.specs.declared.search.Pending.{Pending}
use Rattle.closed_walks.specs.declared.search.Search.{Search}

abbrev pub Reaches : List (List Edge) → ℕ → ℕ → Type 0
Reaches graph a b = (walk : List Edge) × IsWalk graph a walk b

abbrev pub Rising : List ℕ → Type 0
Rising [] = Unit {0}
Rising (x ∷ xs) = ((y : ℕ) → Contains xs y → x < y) × Rising xs

abbrev pub Sorted : List Pending → Type 0
Sorted [] = Unit {0}
Sorted (x ∷ xs) = ((y : Pending) → Contains xs y → x.at ≤ y.at) × Sorted xs

-- an edge from the place j to a node of that state was followed: it goes back over no start of a part
abbrev pub IsSettled : List ℕ → ℕ → State → Type 0
IsSettled starts j Unseen = ⊥
IsSettled starts j (Open p) = (q : ℕ) → Contains starts q → q ≤ j → q ≤ p
IsSettled starts j (Done found) = Unit {0}

pub record IsSearch (graph : List (List Edge)) (s : Search) : Type 0 where
  pub as_long : length s.states ≡ length graph
  pub on_path : (p : ℕ) → p < length s.path → state_at s.states (slice_index s.path p) ≡ Open p
  pub places : (v p : ℕ) → state_at s.states v ≡ Open p → (p < length s.path) × (slice_index s.path p ≡ v)
  -- what is found is so
  pub exact : (v : ℕ) (b : Bool) → state_at s.states v ≡ Done b → IsTrue b ↔ GoesOn graph v
  -- each node of the path leads to the later ones, and within a part also back
  pub onward : (i j : ℕ) → i ≤ j → j < length s.path → Reaches graph (slice_index s.path i) (slice_index s.path j)
  pub back : (y : ℕ) → suc y < length s.path → Contains s.starts (suc y) ⊎ Reaches graph (slice_index s.path (suc y)) (slice_index s.path y)
  -- each edge of an open node is pending, or was followed
  pub known : (j : ℕ) (e : Edge) → j < length s.path → Contains (edges_from graph (slice_index s.path j)) e
      → Contains s.pending (pending_at j e) ⊎ IsSettled s.starts j (state_at s.states e.to)
  pub real : (x : Pending) → Contains s.pending x → (x.at < length s.path) × Contains (edges_from graph (slice_index s.path x.at)) x.edge
  pub sorted : Sorted s.pending
  pub rising : Rising s.starts
  pub starts_in : (q : ℕ) → Contains s.starts q → q < length s.path
  pub first : 0 < length s.path → Contains s.starts 0

abbrev pub with_pending : Search → List Pending → Search
with_pending s pending = record s { pending = pending }

-- the starts that stand at a place or before it
pub record IsCut (place : ℕ) (old new : List ℕ) : Type 0 where
  pub was : (q : ℕ) → Contains new q → Contains old q
  pub kept : (q : ℕ) → Contains old q → q ≤ place → Contains new q
  pub within : (q : ℕ) → Contains new q → q ≤ place
  pub rising : Rising new
  pub shorter : length new ≤ length old

-- how much a search has still to do, at most
abbrev pub need : List Edge → State → ℕ
need edges Unseen = length edges + 2
need edges (Open place) = 0
need edges (Done found) = 0

abbrev pub unseen_work : List (List Edge) → List State → ℕ
unseen_work [] states = 0
unseen_work (edges ∷ graph) [] = 0
unseen_work (edges ∷ graph) (s ∷ states) = need edges s + unseen_work graph states

abbrev pub work : List (List Edge) → Search → ℕ
work graph s = unseen_work graph s.states + length s.pending + length s.starts

-- one step: less is left to do, and what was seen stays so
pub record Goes (graph : List (List Edge)) (old new : Search) : Type 0 where
  pub known : IsSearch graph new
  pub less : work graph new < work graph old
  pub stays : (n : ℕ) → state_at new.states n ≡ Unseen → state_at old.states n ≡ Unseen

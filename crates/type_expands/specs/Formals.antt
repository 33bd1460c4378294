-- The graph of the generic parameters of a world.
use Rattle.std.specs.Prelude.{◌≡◌, ℕ, ◌+◌, ◌<◌, Bool, nat_eq, nat_lt, if◌then◌else◌, List, [], ◌∷◌, ◌++◌, length, map, flat_map, Option, Some, None, slice_get, slice_index_or, slice_set, option_map}
use Rattle.std.specs.List.{filter_map, range_with_len}
use Rattle.clr_base.specs.declared.ids.DefId.{DefId}
use Rattle.closed_walks.specs.declared.graph.Edge.{Edge}
use Rattle.type_tree.specs.declared.definition.Def.{Def}
use Rattle.type_tree.specs.World.{Facts}
use Rattle.type_expands.specs.declared.links.Link.{Link}
use Rattle.type_expands.specs.declared.formals.Span.{Span}
use Rattle.type_expands.specs.Links.{def_links}

-- the nodes are the generic parameters of all definitions, one after the other
abbrev pub spans_from : ℕ → List Def → List Span
spans_from first [] = []
spans_from first (d ∷ ds) = record { first = first; count = length d.formals } ∷ spans_from (first + length d.formals) ds

abbrev pub spans : Facts → List Span
spans w = spans_from 0 w.defs

abbrev pub node_in : ℕ → Option Span → Option ℕ
node_in place None = None
node_in place (Some s) = if nat_lt place s.count then Some (s.first + place) else None

-- the number of a definition's parameter at that place, if it has one there
abbrev pub node_at : List Span → DefId → ℕ → Option ℕ
node_at ss d place = node_in place (slice_get ss d.0)

abbrev pub edge_to : Bool → ℕ → Edge
edge_to expanding n = record { to = n; marked = expanding }

-- the edge of a link from the parameter x, marked where it is expanding
abbrev pub edge_of : List Span → ℕ → Link → Option Edge
edge_of ss x l = if nat_eq l.from x then option_map (edge_to l.expanding) (node_at ss l.to l.place) else None

abbrev pub row : List Span → List Link → ℕ → List Edge
row ss ls x = filter_map (edge_of ss x) ls

-- for each parameter of a definition its edges
abbrev pub rows : List Span → Def → List (List Edge)
rows ss d = map (row ss (def_links d)) (range_with_len 0 (length d.formals))

abbrev pub formal_graph : Facts → List (List Edge)
formal_graph w = flat_map (rows (spans w)) w.defs

-- one edge more in one row
abbrev pub IsPushed : List (List Edge) → ℕ → Edge → List (List Edge) → Type 0
IsPushed old x e new = new ≡ slice_set old x (slice_index_or old x [] ++ e ∷ [])

-- the edges of some links more, each in the row of its parameter
pub record IsAdded (ss : List Span) (old : List (List Edge)) (ls : List Link) (new : List (List Edge)) : Type 0 where
  pub as_long : length new ≡ length old
  pub each : (x : ℕ) → x < length old → slice_index_or new x [] ≡ slice_index_or old x [] ++ row ss ls x

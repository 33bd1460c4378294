-- Definitions that expand (ECMA-335 II.9.2).
use Rattle.std.specs.Prelude.{◌≡◌, ◌↔◌, ℕ, ◌+◌, ◌<◌, Bool, false, List, length, Some, slice_get, slice_index_or, IsTrue}
use Rattle.std.specs.List.{list_any, range_with_len}
use Rattle.closed_walks.specs.Walks.{GoesOn}
use Rattle.type_tree.specs.World.{Facts}
use Rattle.type_expands.specs.declared.formals.Span.{Span}
use Rattle.type_expands.specs.Formals.{spans, formal_graph}

-- from one of its generic parameters a walk goes on into a closed walk with an expanding edge
pub record Expands (w : Facts) (d : ℕ) : Type 0 where
  pub span : Span
  pub is : slice_get (spans w) d ≡ Some span
  pub place : ℕ
  pub within : place < span.count
  pub goes_on : GoesOn (formal_graph w) (span.first + place)

-- one answer for each definition
pub record AreExpanding (w : Facts) (found : List Bool) : Type 0 where
  pub as_long : length found ≡ length w.defs
  pub each : (d : ℕ) (b : Bool) → slice_get found d ≡ Some b → IsTrue b ↔ Expands w d

-- whether something was found of one of the parameters of a definition
abbrev pub found_at : List Bool → ℕ → Bool
found_at found node = slice_index_or found node false

abbrev pub any_found : List Bool → Span → Bool
any_found found span = list_any (λ n. found_at found (span.first + n)) (range_with_len 0 span.count)

-- The place of a table, by what its columns and counts were found to be; and one more table in a list of places.
use Rattle.std.proofs.Common.{◌≡◌, ◌≢◌, ℕ, ◌+◌, ◌*◌, ◌<◌, List, length, get_or, ap, sym, ◌∙◌, subst, arith, below_more, slice_set, get_or-set_same, get_or-set_other}
use Rattle.cli_tables.specs.declared.schema.Column.{Column}
use Rattle.cli_tables.specs.declared.layout.CellPlace.{CellPlace}
use Rattle.cli_tables.specs.declared.layout.TablePlace.{TablePlace}
use Rattle.cli_tables.specs.Schema.{columns}
use Rattle.cli_tables.specs.Layout.{widths, row_count, row_counts, heap_sizes, row_width, start, rows_at}
use Rattle.cli_tables.specs.Places.{AreColumnPlaces, IsTablePlace}
use Rattle.cli_tables.proofs.Counts.{row_counts_at}
use Rattle.cli_tables.proofs.Sums.{sum_below_none, sum_below_more}

pub placed : (stream counts : List ℕ) (sizes : ℕ) (cs : List Column) (t begins wide : ℕ) (cells : List CellPlace)
    → counts ≡ row_counts stream → sizes ≡ heap_sizes stream → cs ≡ columns t → begins ≡ start stream t → t < 45
    → wide ≡ widths counts sizes cs → AreColumnPlaces counts sizes cs cells
    → IsTablePlace stream t (record { start = begins; rows = get_or counts t 0; row_width = wide; cells = cells })
placed stream counts sizes cs t begins wide cells counts_is sizes_is cs_is begins_is known wide_is cells_are = record {
  begins = begins_is;
  rows = ap (λ (l : List ℕ). get_or l t 0) counts_is ∙ row_counts_at stream t 0 known;
  wide = cc;
  cells = subst (λ (l : List Column). AreColumnPlaces (row_counts stream) (heap_sizes stream) l cells) cs_is
      (subst (λ (s : ℕ). AreColumnPlaces (row_counts stream) s cs cells) sizes_is
      (subst (λ (l : List ℕ). AreColumnPlaces l sizes cs cells) counts_is cells_are));
}

-- tables begin behind the counts, each behind the one before
pub start_first : (stream : List ℕ) → start stream 0 ≡ rows_at stream
unfolding start
start_first stream = let none = sum_below_none (λ k. row_count stream k * row_width (row_counts stream) (heap_sizes stream) k) in omega arith

pub start_next : (stream : List ℕ) (t : ℕ) → start stream (t + 1) ≡ start stream t + row_count stream t * row_width (row_counts stream) (heap_sizes stream) t
unfolding start
start_next stream t = let more = sum_below_more (λ k. row_count stream k * row_width (row_counts stream) (heap_sizes stream) k) t in omega arith

pub places_more : (stream : List ℕ) (t : ℕ) (places : List TablePlace) (place : TablePlace) → t < length places → IsTablePlace stream t place
    → ((k : ℕ) → k < t → (d : TablePlace) → IsTablePlace stream k (get_or places k d))
    → (k : ℕ) → k < t + 1 → (d : TablePlace) → IsTablePlace stream k (get_or (slice_set places t place) k d)
places_more stream t places place room here before =
    below_more (λ k. (d : TablePlace) → IsTablePlace stream k (get_or (slice_set places t place) k d)) t
    (λ k less d. let other : k ≢ t = omega arith in
    subst (λ (p : TablePlace). IsTablePlace stream k p) (sym (get_or-set_other places t k place d other)) (before k less d))
    (λ d. subst (λ (p : TablePlace). IsTablePlace stream t p) (sym (get_or-set_same places t place d room)) here)

-- The counts of rows, as a list.
use Rattle.std.proofs.Common.{◌≡◌, ℕ, ◌<◌, ◌≤◌, List, true, length, get_or, refl, arith}
use Rattle.std.proofs.lemmas.Bool.{leb-true}
use Rattle.std.proofs.lemmas.List.FromFn.{length-map-range_with_len, get_or-map-range_with_len}
use Rattle.std.specs.List.{list_all}
use Rattle.cli_tables.specs.Layout.{row_count, row_counts, is_few}
use Rattle.cli_tables.proofs.SchemaFacts.{all_at}

pub length-row_counts : (stream : List ℕ) → length (row_counts stream) ≡ 45
unfolding row_counts
length-row_counts stream = length-map-range_with_len (row_count stream) 0 45

pub row_counts_at : (stream : List ℕ) (t d : ℕ) → t < 45 → get_or (row_counts stream) t d ≡ row_count stream t
unfolding row_counts
row_counts_at stream t d within = get_or-map-range_with_len (row_count stream) 0 45 t t d within (omega arith)

pub few_at : (stream : List ℕ) (t : ℕ) → t < 45 → list_all is_few (row_counts stream) ≡ true → row_count stream t ≤ 16777215
few_at stream t within few =
    let e = row_counts_at stream t 0 within in
    let all = leb-true _ _ (all_at is_few (row_counts stream) t 0 few refl) in
    omega arith

-- One more column of a row.
use Rattle.std.proofs.Common.{◌≡◌, ℕ, ◌+◌, ◌<◌, ◌≢◌, List, length, take, get_or, sym, ◌∙◌, ap₂, arith, get_or-set_other, get_or-set_same, below_more, slice_set}
use Rattle.std.proofs.lemmas.List.{get_or-map}
use Rattle.std.proofs.lemmas.List.Sums.{sum_by_more}
use Rattle.cli_tables.specs.declared.schema.Column.{Column}
use Rattle.cli_tables.specs.declared.layout.CellPlace.{CellPlace}
use Rattle.cli_tables.specs.Layout.{width, widths}
use Rattle.cli_tables.specs.Places.{column_place}

pub widths_more : (counts : List ℕ) (sizes : ℕ) (cs : List Column) (k : ℕ) (d : Column) → k < length cs
    → widths counts sizes (take (k + 1) cs) ≡ widths counts sizes (take k cs) + width counts sizes (get_or cs k d)
unfolding widths
widths_more counts sizes cs k d within = sum_by_more (width counts sizes) cs k d within

pub place_more : (counts : List ℕ) (sizes : ℕ) (cs : List Column) (k : ℕ) (d : Column) (cells : List CellPlace) (cell : CellPlace)
    → k < length cs → k < length cells
    → cell.offset ≡ widths counts sizes (take k cs) → cell.width ≡ width counts sizes (get_or cs k d)
    → ((c : ℕ) → c < k → (e : CellPlace) → get_or cells c e ≡ column_place counts sizes cs c)
    → (c : ℕ) → c < k + 1 → (e : CellPlace) → get_or (slice_set cells k cell) c e ≡ column_place counts sizes cs c
place_more counts sizes cs k d cells cell within room offset wide before =
    let here : (e : CellPlace) → get_or (slice_set cells k cell) k e ≡ column_place counts sizes cs k =
    λ e. get_or-set_same cells k cell e room
    ∙ ap₂ (λ (o w : ℕ). record { offset = o; width = w }) offset (wide ∙ sym (get_or-map (width counts sizes) cs k d 0 within)) in
    below_more (λ c. (e : CellPlace) → get_or (slice_set cells k cell) c e ≡ column_place counts sizes cs c) k
    (λ c less e. let ne : c ≢ k = omega arith in get_or-set_other cells k c cell e ne ∙ before c less e) here

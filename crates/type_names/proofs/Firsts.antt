-- The numbers of the first definitions of files.
use Rattle.std.proofs.Common.{◌≡◌, ℕ, ◌+◌, ◌-◌, ◌<◌, ◌≤◌, List, [], ◌∷◌, ◌++◌, map, length, get_or, refl, sym, ap, ap₂, ◌∙◌, subst, arith}
use Rattle.std.specs.List.{range_with_len}
use Rattle.std.proofs.lemmas.List.FromFn.{length-map-range_with_len, get_or-map-range_with_len, map-range_with_len_more}
use Rattle.std.proofs.lemmas.List.Sums.{sum_by_more}
use Rattle.clr_base.specs.declared.ids.DefId.{DefId}
use Rattle.cli_tables.specs.Metadata.{Metadata}
use Rattle.type_names.specs.declared.resolution.DefPlace.{DefPlace}
use Rattle.type_names.specs.declared.resolution.DefPlace.TheVariants.{InFile}
use Rattle.image_rows.specs.Cells.{rows}
use Rattle.type_names.specs.Numbering.{AreFirsts, IsPlaced}
use Rattle.type_names.specs.Resolution.{def_at, first_def, rows_before}

-- one file more
pub first_more : (files : List Metadata) (k : ℕ) (d : Metadata) → k < length files → first_def files (k + 1) ≡ first_def files k + rows (get_or files k d) 0x02
unfolding rows_before
first_more files k d inside = omega (arith, sum_by_more (λ m. rows m 0x02) files k d inside)

pub first_none : (files : List Metadata) → first_def files 0 ≡ 36
unfolding rows_before
first_none files = refl

module _ (files : List Metadata) (firsts : List ℕ) (are : AreFirsts files firsts) where
  pub first_inside : (k : ℕ) → k ≤ length files → k < length firsts
  first_inside k within =
      let count : length firsts ≡ length files + 1 = ap length are.are ∙ length-map-range_with_len (first_def files) 0 (length files + 1) in
      omega arith

  pub first_read : (k d : ℕ) → k ≤ length files → get_or firsts k d ≡ first_def files k
  first_read k d within =
      ap (λ (xs : List ℕ). get_or xs k d) are.are ∙ get_or-map-range_with_len (first_def files) 0 (length files + 1) k k d (omega arith) (omega arith)

pub firsts_more : (files : List Metadata) (k next : ℕ) (firsts more : List ℕ) → firsts ≡ map (first_def files) (range_with_len 0 (k + 1))
    → next ≡ first_def files (k + 1) → more ≡ firsts ++ next ∷ [] → more ≡ map (first_def files) (range_with_len 0 (k + 1 + 1))
firsts_more files k next firsts more before is e =
    e ∙ ap₂ (λ (xs : List ℕ) (x : ℕ). xs ++ x ∷ []) before is ∙ sym (map-range_with_len_more (first_def files) 0 (k + 1) (k + 1) (omega arith))

-- the number of a definition that stands in a row
placed_parts : (files : List Metadata) (place : DefPlace) (k row : ℕ) → place ≡ InFile k row → IsPlaced files place → IsPlaced files (InFile k row)
placed_parts files place k row is placed = subst (IsPlaced files) is placed

module _ (files : List Metadata) (place : DefPlace) (k row first : ℕ) (is : place ≡ InFile k row) (placed : IsPlaced files place) where
  pub place_inside : k < length files
  place_inside = (placed_parts files place k row is placed).1

  pub place_small : first_def files (k + 1) < 4294967296 → first ≡ first_def files k → first + (row - 1) < 4294967296
  place_small small read =
      let parts = placed_parts files place k row is placed in
      omega (arith, parts.0, parts.2)

  pub place_number : first ≡ first_def files k → record { 0 = first + (row - 1) } ≡ def_at files place
  place_number read = ap (λ (n : ℕ). let id : DefId = record { 0 = n + (row - 1) } in id) read ∙ ap (def_at files) (sym is)

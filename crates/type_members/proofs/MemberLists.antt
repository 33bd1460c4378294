-- Lists of what a table's rows are: one row more, and the owners of rows.
use Rattle.std.proofs.Common.{◌≡◌, ℕ, ◌+◌, ◌<◌, List, [], ◌∷◌, ◌++◌, length, get_or, map, sym, ap, ap₂, ◌∙◌, arith}
use Rattle.std.specs.List.{range_with_len}
use Rattle.std.proofs.lemmas.List.FromFn.{get_or-map-range_with_len, length-map-range_with_len, map-range_with_len_more}

-- what the row behind the first ones gives stands behind what they give
pub row_more : {X : Type 0} (f : ℕ → X) (row : ℕ) (before after : List X) (x : X) → before ≡ map f (range_with_len 1 row)
    → after ≡ before ++ x ∷ [] → x ≡ f (row + 1) → after ≡ map f (range_with_len 1 (row + 1))
row_more f row before after x done added is =
    added ∙ ap₂ (λ xs y. xs ++ y ∷ []) done is ∙ sym (map-range_with_len_more f 1 row (row + 1) (omega arith))

pub row_within : (f : ℕ → ℕ) (row count : ℕ) (all given : List ℕ) → given ≡ all → all ≡ map f (range_with_len 1 count) → row < count
    → row < length given
row_within f row count all given is full less =
    let len : length given ≡ count = ap length (is ∙ full) ∙ length-map-range_with_len f 1 count in omega arith

pub row_given : (f : ℕ → ℕ) (row count : ℕ) (all given : List ℕ) → given ≡ all → all ≡ map f (range_with_len 1 count) → row < count
    → get_or given row 0 ≡ f (row + 1)
row_given f row count all given is full less =
    ap (λ xs. get_or xs row 0) (is ∙ full) ∙ get_or-map-range_with_len f 1 count row (row + 1) 0 less (omega arith)

-- The rows of NestedClass from the last one to the first: what each says in front of those behind it.
use Rattle.std.proofs.Common.{◌≡◌, ◌≢◌, inl, inr, ℕ, suc, ◌+◌, ◌-◌, ◌<◌, ◌≤◌, List, Bool, true, false, cond, eqb, length, get_or, nat_lt, slice_set, replicate, refl, sym, ap, ◌∙◌, arith, get_or-set_same, get_or-set_other}
use Rattle.std.proofs.lemmas.Bool.Decides.{eqb_tells}
use Rattle.std.proofs.lemmas.List.{length-replicate, get_or-replicate, length-set}
use Rattle.std.proofs.lemmas.List.FromFn.{fill_by_all, length-map-range_with_len, get_or-map-range_with_len}
use Rattle.std.specs.List.{find, range_with_len}
use Rattle.std.specs.Option.{option_map_or}
use Rattle.cli_tables.specs.Layout.{cell, row_count}
use Rattle.cli_tables.specs.Metadata.{Metadata}
use Rattle.cli_tables.specs.Schema.{columns}
use Rattle.image_rows.specs.Cells.{first_with}
use Rattle.image_rows.specs.Nesting.{if_before, enclosing_row, enclosing_rows}

-- the columns NestedClass and EnclosingClass are there
pub nesting_column : (column : ℕ) → column < 2 → column < length (columns 0x29)
unfolding columns
nesting_column column within = omega arith

-- what n rows of NestedClass from a first one on tell of a type definition
unfoldable pub enclosing_by : Metadata → ℕ → ℕ → ℕ → ℕ
enclosing_by m first n row =
    if_before row (option_map_or (λ k. cell m.tables 0x29 k 1) (find (λ k. eqb (cell m.tables 0x29 k 0) row) (range_with_len first n)) 0)

-- what those behind the first k tell, for each row of TypeDef
pub record SaidBehind (m : Metadata) (k : ℕ) (rows : List ℕ) : Type 0 where
  pub count : length rows ≡ row_count m.tables 0x02 + 1
  pub each : (row d : ℕ) → row < row_count m.tables 0x02 + 1 → get_or rows row d ≡ enclosing_by m (k + 1) (row_count m.tables 0x29 - k) row

-- none of them: no definition is around another one
same_both : (b : Bool) (x : ℕ) → cond b x x ≡ x
same_both true x = refl
same_both false x = refl

if_none : (row : ℕ) → if_before row 0 ≡ 0
if_none row = same_both (nat_lt 0 row) 0

by_none : (m : Metadata) (first row : ℕ) → enclosing_by m first 0 row ≡ 0
unfolding enclosing_by
by_none m first row = if_none row

-- one more in front: it decides for the definition that it names
by_front : (m : Metadata) (first n row : ℕ) (b : Bool) → eqb (cell m.tables 0x29 first 0) row ≡ b
    → enclosing_by m first (suc n) row ≡ cond b (if_before row (cell m.tables 0x29 first 1)) (enclosing_by m (first + 1) n row)
unfolding enclosing_by
by_front m first n row true named = rw named refl
by_front m first n row false named = rw named refl

pub said_none : (m : Metadata) (k : ℕ) (rows : List ℕ) → k ≡ row_count m.tables 0x29 → rows ≡ replicate (row_count m.tables 0x02 + 1) 0 → SaidBehind m k rows
said_none m k rows all zeros = record {
  count = ap length zeros ∙ length-replicate (row_count m.tables 0x02 + 1) 0;
  each = λ row d within.
      let none : row_count m.tables 0x29 - k ≡ 0 = omega arith in
      ap (λ (xs : List ℕ). get_or xs row d) zeros ∙ get_or-replicate (row_count m.tables 0x02 + 1) row 0 d within
      ∙ sym (by_none m (k + 1) row) ∙ ap (λ (n : ℕ). enclosing_by m (k + 1) n row) (sym none);
}

-- the row k + 1 in front of those behind it
said_at : (m : Metadata) (k row : ℕ) (b : Bool) → k < row_count m.tables 0x29 → eqb (cell m.tables 0x29 (k + 1) 0) row ≡ b
    → enclosing_by m (k + 1) (row_count m.tables 0x29 - k) row
    ≡ cond b (if_before row (cell m.tables 0x29 (k + 1) 1)) (enclosing_by m (k + 1 + 1) (row_count m.tables 0x29 - (k + 1)) row)
said_at m k row b within named =
    let count : row_count m.tables 0x29 - k ≡ suc (row_count m.tables 0x29 - (k + 1)) = omega arith in
    ap (λ (n : ℕ). enclosing_by m (k + 1) n row) count ∙ by_front m (k + 1) (row_count m.tables 0x29 - (k + 1)) row b named

pub said_more : (m : Metadata) (k i nested outer : ℕ) (rows rows' : List ℕ) → i ≡ k + 1 → k < row_count m.tables 0x29 → SaidBehind m i rows
    → nested ≡ cell m.tables 0x29 (k + 1) 0 → outer ≡ cell m.tables 0x29 (k + 1) 1
    → rows' ≡ slice_set rows nested (if_before nested outer) → SaidBehind m k rows'
said_more m k i nested outer rows rows' is within said nested_is outer_is set = record {
  count = ap length set ∙ length-set rows nested (if_before nested outer) ∙ said.count;
  each = λ row d inside.
      let here : length rows ≡ row_count m.tables 0x02 + 1 = said.count in
      elim (eqb_tells nested row) [
        | inl same ↦
            let named : eqb (cell m.tables 0x29 (k + 1) 0) row ≡ true = ap (λ (x : ℕ). eqb x row) (sym nested_is) ∙ same.0 in
            let room : nested < length rows = omega arith in
            ap (λ (xs : List ℕ). get_or xs row d) set
            ∙ ap (λ (x : ℕ). get_or (slice_set rows nested (if_before nested outer)) x d) (sym same.1)
            ∙ get_or-set_same rows nested (if_before nested outer) d room
            ∙ ap (λ (x : ℕ). if_before x outer) same.1
            ∙ ap (λ (x : ℕ). if_before row x) outer_is
            ∙ sym (said_at m k row true within named)
        | inr other ↦
            let named : eqb (cell m.tables 0x29 (k + 1) 0) row ≡ false = ap (λ (x : ℕ). eqb x row) (sym nested_is) ∙ other.0 in
            let apart : row ≢ nested = λ e. other.1 (sym e) in
            ap (λ (xs : List ℕ). get_or xs row d) set
            ∙ get_or-set_other rows nested row (if_before nested outer) d apart
            ∙ said.each row d inside
            ∙ ap (λ (x : ℕ). enclosing_by m (x + 1) (row_count m.tables 0x29 - x) row) is
            ∙ sym (said_at m k row false within named)
      ];
}

-- all of them
pub said_all : (m : Metadata) (k : ℕ) (rows : List ℕ) → k ≡ 0 → SaidBehind m k rows → rows ≡ enclosing_rows m
unfolding enclosing_row enclosing_rows enclosing_by first_with
said_all m k rows first said =
    let whole : row_count m.tables 0x29 - k ≡ row_count m.tables 0x29 = omega arith in
    fill_by_all (enclosing_row m) rows (row_count m.tables 0x02 + 1) 0 said.count
    (λ row within.
    said.each row 0 within ∙ ap (λ (n : ℕ). enclosing_by m (k + 1) n row) whole ∙ ap (λ (x : ℕ). enclosing_by m (x + 1) (row_count m.tables 0x29) row) first)

-- the row of the definition around one, as it is read from that list
pub enclosing_inside : (m : Metadata) (row : ℕ) (rows : List ℕ) → rows ≡ enclosing_rows m → row ≤ row_count m.tables 0x02 → row < length rows
unfolding enclosing_rows
enclosing_inside m row rows is within =
    let count : length rows ≡ row_count m.tables 0x02 + 1 = ap length is ∙ length-map-range_with_len (enclosing_row m) 0 (row_count m.tables 0x02 + 1) in
    omega arith

pub enclosing_read : (m : Metadata) (row d : ℕ) (rows : List ℕ) → rows ≡ enclosing_rows m → row ≤ row_count m.tables 0x02 → get_or rows row d ≡ enclosing_row m row
unfolding enclosing_rows
enclosing_read m row d rows is within =
    ap (λ (l : List ℕ). get_or l row d) is ∙ get_or-map-range_with_len (enclosing_row m) 0 (row_count m.tables 0x02 + 1) row row d (omega arith) (omega arith)

-- The rows that have a number in a column: one row more, and the first of them.
use Rattle.std.proofs.Common.{◌≡◌, ℕ, zero, suc, ◌+◌, ◌<◌, ◌≤◌, ◌==◌, Bool, true, false, cond, List, [], ◌∷◌, ◌++◌, length, get_or, Some, slice_get, filter, subst, refl, sym, ap, ◌∙◌, arith, if◌then◌else◌}
use Rattle.std.specs.List.{find, range_with_len}
use Rattle.std.proofs.lemmas.List.{append-nil}
use Rattle.std.proofs.lemmas.List.Elements.{filter-append}
use Rattle.cli_tables.specs.Metadata.{Metadata}
use Rattle.image_rows.specs.Cells.{at, rows, rows_of, rows_with, first_with}
use Rattle.type_members.specs.RowIndexes.{AreRows, Indexes, first_of_group, group}
use Rattle.type_members.specs.declared.row_index.RowIndex.{RowIndex}
use Rattle.clr_base.proofs.Ranges.{range_more}

one_filtered : (p : ℕ → Bool) (row : ℕ) (b : Bool) (xs : List ℕ) → p row ≡ b → xs ++ filter p (row ∷ []) ≡ cond b (xs ++ row ∷ []) xs
one_filtered p row true xs e = rw e refl
one_filtered p row false xs e = rw e (append-nil xs)

filter_more : (p : ℕ → Bool) (n : ℕ) → filter p (range_with_len 1 (n + 1)) ≡ cond (p (n + 1)) (filter p (range_with_len 1 n) ++ (n + 1) ∷ []) (filter p (range_with_len 1 n))
filter_more p n =
    let e : n + 1 ≡ suc n = omega arith in
    let last : 1 + n ≡ n + 1 = omega arith in
    ap (λ (k : ℕ). filter p (range_with_len 1 k)) e ∙ ap (filter p) (range_more 1 n)
    ∙ ap (λ (k : ℕ). filter p (range_with_len 1 n ++ k ∷ [])) last
    ∙ filter-append p (range_with_len 1 n) ((n + 1) ∷ [])
    ∙ one_filtered p (n + 1) (p (n + 1)) (filter p (range_with_len 1 n)) refl

-- those of the first rows of a table that have a number
abbrev pub first_rows_with : Metadata → ℕ → ℕ → ℕ → ℕ → List ℕ
first_rows_with m table column value n = filter (λ row. at m table row column == value) (range_with_len 1 n)

pub group_more : (m : Metadata) (table column row value v : ℕ) (old new : List ℕ) → value ≡ at m table (row + 1) column
    → old ≡ first_rows_with m table column v row → new ≡ (if value == v then old ++ (row + 1) ∷ [] else old)
    → new ≡ first_rows_with m table column v (row + 1)
group_more m table column row value v old new is before e =
    e ∙ ap (λ (x : ℕ). if x == v then old ++ (row + 1) ∷ [] else old) is
    ∙ ap (λ (xs : List ℕ). if at m table (row + 1) column == v then xs ++ (row + 1) ∷ [] else xs) before
    ∙ sym (filter_more (λ r. at m table r column == v) row)

pub group_whole : (m : Metadata) (table column value n : ℕ) (rows_there : List ℕ) → n ≡ rows m table → rows_there ≡ first_rows_with m table column value n
    → rows_there ≡ rows_with m table column value
unfolding rows_with
group_whole m table column value n rows_there is e = e ∙ ap (first_rows_with m table column value) is

-- the first that passes a test is the first of all that do
first_kept : (p : ℕ → Bool) (x : ℕ) (xs : List ℕ) (b : Bool) → p x ≡ b → slice_get (filter p xs) 0 ≡ find p xs → slice_get (filter p (x ∷ xs)) 0 ≡ find p (x ∷ xs)
first_kept p x xs true e rest = rw e refl
first_kept p x xs false e rest = rw e rest

first_of : (p : ℕ → Bool) (xs : List ℕ) → slice_get (filter p xs) 0 ≡ find p xs
first_of p [] = refl
first_of p (x ∷ xs) = first_kept p x xs (p x) refl (first_of p xs)

pub first_is : (m : Metadata) (table column value : ℕ) → slice_get (rows_with m table column value) 0 ≡ first_with m table column value
unfolding rows_with first_with
first_is m table column value = first_of (λ row. at m table row column == value) (rows_of m table)

-- ---- what is found are rows

-- numbers from a first one to one before an end
pub record AreBetween (start end : ℕ) (xs : List ℕ) : Type 0 where
  pub first : (i : ℕ) → i < length xs → start ≤ get_or xs i 0
  pub last : (i : ℕ) → i < length xs → get_or xs i 0 < end

none_between : (start end : ℕ) → AreBetween start end []
none_between start end = record { first = λ i within. absurd (omega arith); last = λ i within. absurd (omega arith) }

front_first : (start end : ℕ) (xs : List ℕ) → AreBetween (start + 1) end xs → (i : ℕ) → i < length (start ∷ xs) → start ≤ get_or (start ∷ xs) i 0
front_first start end xs rest zero within = omega arith
front_first start end xs rest (suc i) within = omega (arith, rest.first i (omega arith))

front_last : (start end : ℕ) (xs : List ℕ) → start < end → AreBetween (start + 1) end xs → (i : ℕ) → i < length (start ∷ xs) → get_or (start ∷ xs) i 0 < end
front_last start end xs room rest zero within = room
front_last start end xs room rest (suc i) within = rest.last i (omega arith)

more_between : (start end : ℕ) (xs : List ℕ) (b : Bool) → start < end → AreBetween (start + 1) end xs → AreBetween start end (cond b (start ∷ xs) xs)
more_between start end xs true room rest = record { first = front_first start end xs rest; last = front_last start end xs room rest }
more_between start end xs false room rest = record { first = λ i within. omega (arith, rest.first i within); last = rest.last }

kept_between : (p : ℕ → Bool) (start end n : ℕ) → start + n ≤ end → AreBetween start end (filter p (range_with_len start n))
kept_between p start end zero room = none_between start end
kept_between p start end (suc n) room =
    more_between start end (filter p (range_with_len (start + 1) n)) (p start) (omega arith) (kept_between p (start + 1) end n (omega arith))

pub found_rows : (m : Metadata) (table column value : ℕ) → AreRows m table (rows_with m table column value)
unfolding rows_with
found_rows m table column value =
    let all = kept_between (λ row. at m table row column == value) 1 (rows m table + 1) (rows m table) (omega arith) in
    record { first = all.first; last = λ i within. omega (arith, all.last i within) }

-- ---- so of an index

-- an index has rows of its table
group_rows : (m : Metadata) (table column : ℕ) (index : RowIndex) → Indexes m table column index → (value : ℕ) → AreRows m table (group index value)
group_rows m table column index indexed value = subst (AreRows m table) (sym (indexed.each value)) (found_rows m table column value)

pub found_in : (m : Metadata) (table column : ℕ) (index : RowIndex) → Indexes m table column index → (value : ℕ) (xs : List ℕ) → xs ≡ group index value → AreRows m table xs
found_in m table column index indexed value xs e = subst (AreRows m table) (sym e) (group_rows m table column index indexed value)

-- its first row is the first one that has the number
pub first_given : (m : Metadata) (table column : ℕ) (index : RowIndex) → Indexes m table column index → (value : ℕ)
    → first_of_group index value ≡ first_with m table column value
first_given m table column index indexed value = ap (λ (xs : List ℕ). slice_get xs 0) (indexed.each value) ∙ first_is m table column value

-- it is a row of the table
first_inside : (m : Metadata) (table row : ℕ) (xs : List ℕ) → AreRows m table xs → slice_get xs 0 ≡ Some row → (1 ≤ row) × (row ≤ rows m table)
first_inside m table row [] are e = cc
first_inside m table row (x ∷ xs) are e =
    let same : x ≡ row = cc in
    (omega (arith, are.first 0 (omega arith)), omega (arith, are.last 0 (omega arith)))

pub first_row : (m : Metadata) (table column : ℕ) (index : RowIndex) → Indexes m table column index → (value row : ℕ)
    → first_of_group index value ≡ Some row → (1 ≤ row) × (row ≤ rows m table)
first_row m table column index indexed value row e = first_inside m table row (group index value) (group_rows m table column index indexed value) e

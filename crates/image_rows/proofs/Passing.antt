-- Where the checks of all rows pass, each of them does: so each name is a text.
use Rattle.std.proofs.Common.{◌≡◌, ◌≢◌, ℕ, zero, suc, ◌+◌, ◌-◌, ◌<◌, ◌≤◌, ◌⊎◌, inl, inr, Bool, true, false, cond, List, [], ◌∷◌, length, slice_index, Option, None, Some, is_some, Result, Ok, Err, refl, sym, ap, ◌∙◌, arith, subst}
use Rattle.std.proofs.lemmas.Bool.{ne_eqb}
use Rattle.clr_base.specs.declared.image_fault.ImageFault.{ImageFault}
use Rattle.clr_base.specs.Checks.{Check, check, first_fault, after, each}
use Rattle.clr_base.specs.declared.image_fault.FaultKind.{FaultKind}
use Rattle.clr_base.proofs.Checks.{first_fault_append, each_failed}
use Rattle.cli_tables.specs.Heaps.{text_at}
use Rattle.cli_tables.specs.Layout.{cell, row_count}
use Rattle.cli_tables.specs.Metadata.{Metadata}
use Rattle.cli_tables.specs.Schema.{columns}
use Rattle.image_rows.specs.Cells.{text, text_or_empty}
use Rattle.image_rows.specs.Rows.{checked_tables, is_text, text_checks, cell_checks, column_checks, rule_checks, row_checks, table_checks, rows_checks, ArePassed}

first_passes : (r s : Result (Unit {0}) ImageFault) → after r s ≡ Ok (tt {0}) → r ≡ Ok (tt {0})
first_passes (Ok x) s e = refl
first_passes (Err f) s e = cc

last_passes : (r s : Result (Unit {0}) ImageFault) → after r s ≡ Ok (tt {0}) → s ≡ Ok (tt {0})
last_passes (Ok x) s e = e
last_passes (Err f) s e = cc

pub below_or_last : (k n : ℕ) → k < suc n → (k < n) ⊎ (k ≡ n)
below_or_last k n h = grind arith

-- each number below n passes
pub passed_at : (n k : ℕ) (checks : ℕ → List Check) → k < n → first_fault (each n checks) ≡ Ok (tt {0}) → first_fault (checks k) ≡ Ok (tt {0})
unfolding each
passed_at zero k checks within e = absurd (omega arith)
passed_at (suc n) k checks within e =
    let both : after (first_fault (each n checks)) (first_fault (checks n)) ≡ Ok (tt {0}) = sym (first_fault_append (each n checks) (checks n)) ∙ e in
    elim (below_or_last k n within) [
      | inl less ↦ passed_at n k checks less (first_passes _ _ both)
      | inr last ↦ subst (λ m. first_fault (checks m) ≡ Ok (tt {0})) (sym last) (last_passes _ _ both)
    ]

-- one check
pub one_passes : (b : Bool) (kind : FaultKind) (place : ℕ) → first_fault (check b kind place ∷ []) ≡ Ok (tt {0}) → b ≡ true
one_passes true kind place e = refl
one_passes false kind place e = cc

second_of_two : (p q : Bool) (f g : ImageFault) → cond p (cond q (Ok (tt {0})) (Err g)) (Err f) ≡ Ok (tt {0}) → q ≡ true
second_of_two true true f g e = refl
second_of_two true false f g e = cc
second_of_two false q f g e = cc

pub text_passes : (heap : List ℕ) (index place : ℕ) → first_fault (text_checks heap index place) ≡ Ok (tt {0}) → is_text (text_at heap index) ≡ true
unfolding text_checks
text_passes heap index place e = second_of_two (is_some (text_at heap index)) (is_text (text_at heap index)) _ _ e

-- a row is its columns and its rule
module _ (m : Metadata) (table row : ℕ) where
  in_two : first_fault (row_checks m table row) ≡ after (first_fault (column_checks m table row)) (first_fault (rule_checks m table row))
  unfolding row_checks
  in_two = first_fault_append (column_checks m table row) (rule_checks m table row)

  pub row_passes : first_fault (column_checks m table row) ≡ Ok (tt {0}) → first_fault (rule_checks m table row) ≡ Ok (tt {0}) → first_fault (row_checks m table row) ≡ Ok (tt {0})
  row_passes columns_pass rule_passes = in_two ∙ ap (λ r. after r (first_fault (rule_checks m table row))) columns_pass ∙ rule_passes

  pub columns_fail : (f : ImageFault) → first_fault (column_checks m table row) ≡ Err f → first_fault (row_checks m table row) ≡ Err f
  columns_fail f failed = in_two ∙ ap (λ r. after r (first_fault (rule_checks m table row))) failed

  pub rule_fails : (f : ImageFault) → first_fault (column_checks m table row) ≡ Ok (tt {0}) → first_fault (rule_checks m table row) ≡ Err f → first_fault (row_checks m table row) ≡ Err f
  rule_fails f columns_pass failed = in_two ∙ ap (λ r. after r (first_fault (rule_checks m table row))) columns_pass ∙ failed

  pub columns_pass : first_fault (row_checks m table row) ≡ Ok (tt {0}) → first_fault (column_checks m table row) ≡ Ok (tt {0})
  columns_pass e = first_passes _ _ (sym in_two ∙ e)

  -- no rule but for NestedClass and GenericParam
  pub no_rule : table ≢ 0x29 → table ≢ 0x2a → first_fault (rule_checks m table row) ≡ Ok (tt {0})
  unfolding rule_checks
  no_rule not_nested not_generic = rw (ne_eqb table 0x29 not_nested, ne_eqb table 0x2a not_generic) refl

  -- each column of a row that passes
  pub cell_passes : (c : ℕ) → c < length (columns table) → first_fault (column_checks m table row) ≡ Ok (tt {0}) → first_fault (cell_checks m table row c) ≡ Ok (tt {0})
  unfolding column_checks
  cell_passes c within e = passed_at (length (columns table)) c (cell_checks m table row) within e

-- a row of a table that passes
pub row_at : (m : Metadata) (table row : ℕ) → 1 ≤ row → row ≤ row_count m.tables table → first_fault (table_checks m table) ≡ Ok (tt {0}) → first_fault (row_checks m table row) ≡ Ok (tt {0})
unfolding table_checks
row_at m table row first last all =
    let e : row - 1 + 1 ≡ row = omega arith in
    subst (λ r. first_fault (row_checks m table r) ≡ Ok (tt {0})) e (passed_at (row_count m.tables table) (row - 1) (λ r. row_checks m table (r + 1)) (omega arith) all)

-- the table TypeDef is the second one that is checked
pub type_defs_pass : (m : Metadata) → ArePassed m → first_fault (table_checks m 0x02) ≡ Ok (tt {0})
unfolding rows_checks
type_defs_pass m all = passed_at (length checked_tables) 1 (λ k. table_checks m (slice_index checked_tables k)) (omega arith) all

-- the names and namespaces of type definitions are texts
are_types_named : (m : Metadata) → ArePassed m → (row column : ℕ) → 1 ≤ row → row ≤ row_count m.tables 2 → (column ≡ 1) ⊎ (column ≡ 2)
    → is_text (text_at m.strings (cell m.tables 2 row column)) ≡ true
unfolding columns cell_checks
are_types_named m all row column first last which =
    let here : (c : ℕ) → c < length (columns 2) → first_fault (cell_checks m 2 row c) ≡ Ok (tt {0}) =
    λ c within. cell_passes m 2 row c within (columns_pass m 2 row (row_at m 2 row first last (type_defs_pass m all))) in
    elim which [
      | inl one ↦ subst (λ c. is_text (text_at m.strings (cell m.tables 2 row c)) ≡ true) (sym one) (text_passes _ _ _ (here 1 (omega arith)))
      | inr two ↦ subst (λ c. is_text (text_at m.strings (cell m.tables 2 row c)) ≡ true) (sym two) (text_passes _ _ _ (here 2 (omega arith)))
    ]

has_text : (o : Option (List ℕ)) → is_text o ≡ true → o ≡ Some (text_or_empty o)
has_text None good = cc
has_text (Some t) good = rw good refl

-- so each is the text that a row is said to have
pub type_text : (m : Metadata) (row column : ℕ) → ArePassed m → 1 ≤ row → row ≤ row_count m.tables 2 → (column ≡ 1) ⊎ (column ≡ 2)
    → text_at m.strings (cell m.tables 2 row column) ≡ Some (text m 2 row column)
unfolding text
type_text m row column all first last which =
    has_text (text_at m.strings (cell m.tables 2 row column)) (are_types_named m all row column first last which)

-- the first row that fails
pub table_failed : (m : Metadata) (table k : ℕ) (fault : ImageFault) → k < row_count m.tables table
    → first_fault (each k (λ r. row_checks m table (r + 1))) ≡ Ok (tt {0}) → first_fault (row_checks m table (k + 1)) ≡ Err fault
    → first_fault (table_checks m table) ≡ Err fault
unfolding table_checks
table_failed m table k fault within before here = each_failed k (row_count m.tables table) (λ r. row_checks m table (r + 1)) (tt {0}) fault within before here

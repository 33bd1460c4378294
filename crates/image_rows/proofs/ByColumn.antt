-- A table that passes column by column passes row by row.
use Rattle.std.proofs.Common.{◌≡◌, ◌≢◌, ℕ, zero, suc, ◌+◌, ◌<◌, inl, inr, List, length, get_or, Ok, sym, arith, subst}
use Rattle.clr_base.specs.Checks.{Check, first_fault, each}
use Rattle.clr_base.proofs.Checks.{each_none, each_passed}
use Rattle.cli_tables.specs.declared.schema.Column.{Column}
use Rattle.cli_tables.specs.declared.schema.Column.TheVariants as kind
use Rattle.cli_tables.specs.Layout.{cell, row_count}
use Rattle.cli_tables.specs.Metadata.{Metadata}
use Rattle.cli_tables.specs.Schema.{columns}
use Rattle.image_rows.specs.Columns.{FirstPass, ValuesPass, CellsPass}
use Rattle.image_rows.specs.Rows.{value_checks, cell_checks, column_checks, row_checks, table_checks}
use Rattle.image_rows.proofs.Passing.{below_or_last, row_passes, no_rule}

module _ (m : Metadata) (table column : ℕ) (what : Column) where
  pub none_yet : FirstPass m table column what 0
  none_yet = record { each = λ row first last. absurd (omega arith) }

  pub one_more : (n value : ℕ) → FirstPass m table column what n → value ≡ cell m.tables table (n + 1) column
      → first_fault (value_checks m table (n + 1) column what value) ≡ Ok (tt {0}) → FirstPass m table column what (n + 1)
  one_more n value before is here = record {
    each = λ row first last. elim (below_or_last row (n + 1) (omega arith)) [
      | inl less ↦ before.each row first (omega arith)
      | inr last_is ↦ subst (λ r. first_fault (value_checks m table r column what (cell m.tables table r column)) ≡ Ok (tt {0})) (sym last_is)
          (subst (λ v. first_fault (value_checks m table (n + 1) column what v) ≡ Ok (tt {0})) is here)
    ];
  }

  -- a column by its kind
  pub by_kind : what ≡ get_or (columns table) column kind.U8 → ValuesPass m table column what → CellsPass m table column
  unfolding cell_checks
  by_kind is pass = record { each = λ row first last. subst (λ k. first_fault (value_checks m table row column k (cell m.tables table row column)) ≡ Ok (tt {0})) is (pass.each row first last) }

-- the checks of each number below n pass where each of them does
each_passes : (n : ℕ) (checks : ℕ → List Check) → ((k : ℕ) → k < n → first_fault (checks k) ≡ Ok (tt {0})) → first_fault (each n checks) ≡ Ok (tt {0})
each_passes zero checks pass = each_none checks
each_passes (suc n) checks pass =
    let before = each_passes n checks (λ k less. pass k (omega arith)) in
    let next : n + 1 ≡ suc n = omega arith in
    subst (λ k. first_fault (each k checks) ≡ Ok (tt {0})) next (each_passed n checks before (pass n (omega arith)))

pub table_passes : (m : Metadata) (table : ℕ) → table ≢ 0x29 → table ≢ 0x2a → ((c : ℕ) → c < length (columns table) → CellsPass m table c)
    → first_fault (table_checks m table) ≡ Ok (tt {0})
unfolding table_checks column_checks
table_passes m table not_nested not_generic pass =
    each_passes (row_count m.tables table) (λ r. row_checks m table (r + 1)) (λ r less.
    row_passes m table (r + 1) (each_passes (length (columns table)) (cell_checks m table (r + 1)) (λ c within. (pass c within).each (r + 1) (omega arith) (omega arith))) (no_rule m table (r + 1) not_nested not_generic))

-- Where the checks of all rows pass, the runs of TypeDef rows are within their tables.
use Rattle.std.proofs.Common.{◌≡◌, ℕ, ◌+◌, ◌-◌, ◌<◌, ◌≤◌, true, List, Ok, length, min, arith}
use Rattle.std.specs.Prelude.{◌&&◌, nat_le, nat_lt}
use Rattle.std.proofs.lemmas.Bool.{and_parts, leb-true, ltb-true, le-leb}
use Rattle.clr_base.specs.Checks.{first_fault}
use Rattle.cli_tables.specs.Layout.{row_count}
use Rattle.cli_tables.specs.Metadata.{Metadata}
use Rattle.cli_tables.specs.Schema.{columns}
use Rattle.type_tree.specs.declared.counts.Counts.{Counts}
use Rattle.core_types.specs.CoreTable.{core_methods}
use Rattle.image_rows.specs.Cells.{rows, at, run_len, before_run}
use Rattle.type_members.specs.MemberTable.{run_of, run_at}
use Rattle.type_names.specs.Resolution.{rows_before}
use Rattle.image_rows.specs.Rows.{is_run, cell_before, cell_checks, ArePassed}
use Rattle.world_build.proofs.DefsFit.{RunFits}
use Rattle.clr_base.proofs.ListFacts.{choose}
use Rattle.image_rows.proofs.Passing.{one_passes, cell_passes, columns_pass, row_at, type_defs_pass}

-- the first row of a run in a column
pub record StartsWell (m : Metadata) (column table row : ℕ) : Type 0 where
  pub first : 1 ≤ at m 0x02 row column
  pub last : at m 0x02 row column ≤ rows m table + 1

starts : (m : Metadata) (table before value : ℕ) → is_run m table before value ≡ true → (1 ≤ value) × (value ≤ rows m table + 1)
unfolding is_run
starts m table before value e =
    let all = and_parts (nat_le 1 value && nat_le value (row_count m.tables table + 1)) (nat_le before value) e in
    let two = and_parts (nat_le 1 value) (nat_le value (row_count m.tables table + 1)) all.0 in
    (leb-true 1 value two.0, leb-true value (row_count m.tables table + 1) two.1)

module _ (m : Metadata) (passed : ArePassed m) where
  cell_good : (row c : ℕ) → c < length (columns 2) → 1 ≤ row → row ≤ rows m 0x02 → first_fault (cell_checks m 2 row c) ≡ Ok (tt {0})
  cell_good row c within first last = cell_passes m 2 row c within (columns_pass m 2 row (row_at m 2 row first last (type_defs_pass m passed)))

  pub fields_start : (row : ℕ) → 1 ≤ row → row ≤ rows m 0x02 → StartsWell m 4 0x04 row
  unfolding columns cell_checks
  fields_start row first last =
      let h = starts m 0x04 (cell_before m 2 row 4) (at m 0x02 row 4) (one_passes _ _ _ (cell_good row 4 (omega arith) first last)) in
      record { first = h.0; last = h.1 }

  pub methods_start : (row : ℕ) → 1 ≤ row → row ≤ rows m 0x02 → StartsWell m 5 0x06 row
  unfolding columns cell_checks
  methods_start row first last =
      let h = starts m 0x06 (cell_before m 2 row 5) (at m 0x02 row 5) (one_passes _ _ _ (cell_good row 5 (omega arith) first last)) in
      record { first = h.0; last = h.1 }

-- a run is within its table, where it and the next one start well
run_ends : (m : Metadata) (column table row : ℕ) → StartsWell m column table row → (row < rows m 0x02 → StartsWell m column table (row + 1))
    → before_run m column table row + run_len m column table row ≤ rows m table
unfolding run_len before_run
run_ends m column table row here next =
    choose (λ (end : ℕ). min (at m 0x02 row column - 1) (rows m table) + (end - at m 0x02 row column) ≤ rows m table) (nat_lt row (rows m 0x02)) _ _
    (λ e. let more = next (ltb-true row (rows m 0x02) e) in omega (arith, here.first, here.last, more.last))
    (λ _. omega (arith, here.first, here.last))

pub run_fits : (c : Counts) (files : List Metadata) (k : ℕ) (m : Metadata) (row : ℕ) → ArePassed m → 1 ≤ row → row ≤ rows m 0x02
    → rows_before files k 0x04 + rows m 0x04 ≤ c.fields → core_methods + (rows_before files k 0x06 + rows m 0x06) ≤ c.methods → RunFits c (run_of files k m row)
unfolding run_at
run_fits c files k m row passed first last fields methods =
    let own = run_ends m 4 0x04 row (fields_start m passed row first last) (λ more. fields_start m passed (row + 1) (omega arith) (omega (arith, more))) in
    let other = run_ends m 5 0x06 row (methods_start m passed row first last) (λ more. methods_start m passed (row + 1) (omega arith) (omega (arith, more))) in
    record { fields = le-leb _ _ (omega (arith, own, fields)); methods = le-leb _ _ (omega (arith, other, methods)) }

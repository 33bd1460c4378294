use Rattle.std.proofs.Common.{◌≡◌, ℕ, true, sym, ◌∙◌, ap₂, subst, arith}
use Rattle.clr_base.specs.LittleEndian.{number_at}
use Rattle.cli_tables.specs.declared.layout.CellPlace.{CellPlace}
use Rattle.cli_tables.specs.Layout.{cell, is_read_width}
use Rattle.cli_tables.proofs.CellLemmas.{cell_found, inside, reads}
use Rattle.cli_tables.proofs.cells.read_cell.Goals as goal

abbrev none : CellPlace
none = record { offset = 0; width = 0 }

pub bounds-place-column : goal.bounds-place-column
bounds-place-column c = (cell_found _ c.args.place.now _ c.args.row _ none c.requires.place c.requires.cell).few

pub overflow_add-row_at : goal.overflow_add-row_at
overflow_add-row_at c =
    let found = cell_found c.args.stream.now c.args.place.now c.args.table c.args.row c.args.column none c.requires.place c.requires.cell in
    let all = inside c.args.stream.now c.args.table c.args.row c.args.column c.requires.whole c.requires.cell in
    omega (arith, found.at)

pub overflow_add-row_at-2 : goal.overflow_add-row_at-2
overflow_add-row_at-2 c =
    let found = cell_found c.args.stream.now c.args.place.now c.args.table c.args.row c.args.column none c.requires.place c.requires.cell in
    let all = inside c.args.stream.now c.args.table c.args.row c.args.column c.requires.whole c.requires.cell in
    omega (arith, found.at)

pub read_number-requires-clause-inside : goal.read_number-requires-clause-inside
read_number-requires-clause-inside c =
    let found = cell_found c.args.stream.now c.args.place.now c.args.table c.args.row c.args.column none c.requires.place c.requires.cell in
    let all = inside c.args.stream.now c.args.table c.args.row c.args.column c.requires.whole c.requires.cell in
    omega (arith, found.at, found.wide)

pub read_number-requires-clause-width : goal.read_number-requires-clause-width
read_number-requires-clause-width c =
    let found = cell_found c.args.stream.now c.args.place.now c.args.table c.args.row c.args.column none c.requires.place c.requires.cell in
    subst (λ (w : ℕ). is_read_width w ≡ true) (sym found.wide) (reads c.args.stream.now c.args.table c.args.column c.requires.cell.column)

pub returns : goal.returns
unfolding cell
returns c =
    let found = cell_found c.args.stream.now c.args.place.now c.args.table c.args.row c.args.column none c.requires.place c.requires.cell in
    c.read_number.ensures ∙ ap₂ (λ (w at : ℕ). number_at w c.args.stream.now at) found.wide found.at

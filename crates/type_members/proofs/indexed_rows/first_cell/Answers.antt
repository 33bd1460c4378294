use Rattle.std.proofs.Common.{ℕ, Some, ◌∙◌, sym, ap}
use Rattle.std.specs.Option.{option_map}
use Rattle.image_rows.specs.Cells.{at}
use Rattle.type_members.proofs.RowLists.{first_given, first_row}
use Rattle.type_members.proofs.indexed_rows.first_cell.Goals as goal

pub cell-requires : goal.cell-requires
cell-requires c =
    let inside = first_row c.args.tables.now c.args.table c.args.by c.args.index.now c.requires.index c.args.value c.in-Some.row
    (sym c.first.ensures ∙ c.in-Some.is) in
    record { first = inside.0; last = inside.1; column = c.requires.column }

pub returns-in-Some : goal.returns-in-Some
returns-in-Some c =
    let m = c.args.tables.now in
    ap (λ (n : ℕ). Some n) c.cell.ensures
    ∙ ap (option_map (λ row. at m c.args.table row c.args.column))
    (sym c.in-Some.is ∙ c.first.ensures ∙ first_given m c.args.table c.args.by c.args.index.now c.requires.index c.args.value)

pub returns-in-None : goal.returns-in-None
returns-in-None c =
    let m = c.args.tables.now in
    ap (option_map (λ row. at m c.args.table row c.args.column))
    (sym c.in-None.is ∙ c.first.ensures ∙ first_given m c.args.table c.args.by c.args.index.now c.requires.index c.args.value)

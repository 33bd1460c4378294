use Rattle.std.proofs.Common.{ℕ, ◌∙◌, ap, arith}
use Rattle.std.specs.Str.{bytes_eq}
use Rattle.image_rows.specs.Cells.{text, text_by}
use Rattle.core_types.specs.Names.{with_one, id_in}
use Rattle.type_names.proofs.Numbered.{names_more, ids_more, names_few}
use Rattle.type_names.proofs.text_numbers.number_column.Goals as goal

pub number_at-requires-clause-room : goal.number_at-requires-clause-room
number_at-requires-clause-room c =
    let few = names_few (λ row. text c.args.tables.now c.args.table row c.args.column) c.loop-row.row c.loop-row.row c.args.names.now c.loop-row.names
    c.loop-row.invariant.names (omega arith) in
    omega arith

pub loop-row-preserved : goal.loop-row-preserved
unfolding text
loop-row-preserved c =
    let m = c.args.tables.now in
    let f = λ (row : ℕ). text m c.args.table row c.args.column in
    let read = ap (text_by m) c.cell-index.ensures in
    let more = c.in_ok-id.ensures.names ∙ ap (with_one bytes_eq c.loop-row.names) read in
    record {
      names = names_more f c.loop-row.row c.args.names.now c.loop-row.names c.number_at.new.names c.loop-row.invariant.names more;
      noted = c.in_ok-id.ensures.noted;
      ids =
          ids_more f c.loop-row.row c.loop-row.names c.number_at.new.names c.loop-row.ids _ c.in_ok-id.id c.loop-row.invariant.ids more
          (c.in_ok-id.ensures.number ∙ ap (id_in c.loop-row.names) read) c.in_ok-push.ensures.ok;
    }

pub returns-clause-few : goal.returns-clause-few
returns-clause-few c =
    names_few (λ row. text c.args.tables.now c.args.table row c.args.column) 16777215 c.loop-row.row c.args.names.now c.loop-row.names
    c.loop-row.invariant.names (omega arith)

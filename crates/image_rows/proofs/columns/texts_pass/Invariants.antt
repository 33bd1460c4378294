use Rattle.cli_tables.specs.declared.schema.Column.TheVariants as kind
use Rattle.image_rows.specs.Columns.{FirstPass}
use Rattle.image_rows.proofs.columns.texts_pass.Given as goal

abbrev pub invariant-loop-row : goal.invariant-loop-row
invariant-loop-row l = FirstPass l.tables l.table l.column kind.Strings l.row

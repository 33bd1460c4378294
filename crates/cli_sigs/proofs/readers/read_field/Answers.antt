use Rattle.cli_sigs.specs.Signatures.{field_at}
use Rattle.cli_sigs.specs.Grammar.{SpellsField}
use Rattle.cli_sigs.proofs.FiveKinds.{reads_field, answers_found, answers_only}
use Rattle.cli_sigs.proofs.readers.read_field.Goals as goal

pub returns-clause-found : goal.returns-clause-found
returns-clause-found c =
    let counts = c.args.counts.now in
    answers_found (field_at counts) (SpellsField counts) (reads_field counts) c.args.blob.now c.placed.result (c.placed.ensures (field_at counts c.args.blob.now) c.field.ensures)

pub returns-clause-only : goal.returns-clause-only
returns-clause-only c =
    let counts = c.args.counts.now in
    answers_only (field_at counts) (SpellsField counts) (reads_field counts) c.args.blob.now c.placed.result (c.placed.ensures (field_at counts c.args.blob.now) c.field.ensures)

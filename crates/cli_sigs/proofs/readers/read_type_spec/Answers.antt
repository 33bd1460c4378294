use Rattle.cli_sigs.specs.Signatures.{whole_type_at}
use Rattle.cli_sigs.specs.Grammar.{SpellsTypeSpec}
use Rattle.cli_sigs.proofs.FiveKinds.{reads_type_spec, answers_found, answers_only}
use Rattle.cli_sigs.proofs.readers.read_type_spec.Goals as goal

pub returns-clause-found : goal.returns-clause-found
unfolding whole_type_at
returns-clause-found c =
    let counts = c.args.counts.now in
    answers_found (whole_type_at counts) (SpellsTypeSpec counts) (reads_type_spec counts) c.args.blob.now c.placed.result (c.placed.ensures (whole_type_at counts c.args.blob.now) c.type_of.ensures)

pub returns-clause-only : goal.returns-clause-only
unfolding whole_type_at
returns-clause-only c =
    let counts = c.args.counts.now in
    answers_only (whole_type_at counts) (SpellsTypeSpec counts) (reads_type_spec counts) c.args.blob.now c.placed.result (c.placed.ensures (whole_type_at counts c.args.blob.now) c.type_of.ensures)

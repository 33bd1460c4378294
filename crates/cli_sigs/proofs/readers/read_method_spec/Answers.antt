use Rattle.cli_sigs.specs.Signatures.{method_spec_at}
use Rattle.cli_sigs.specs.Grammar.{SpellsMethodSpec}
use Rattle.cli_sigs.proofs.FiveKinds.{reads_method_spec, answers_found, answers_only}
use Rattle.cli_sigs.proofs.readers.read_method_spec.Goals as goal

pub returns-clause-found : goal.returns-clause-found
returns-clause-found c =
    let counts = c.args.counts.now in
    answers_found (method_spec_at counts) (SpellsMethodSpec counts) (reads_method_spec counts) c.args.blob.now c.placed.result (c.placed.ensures (method_spec_at counts c.args.blob.now) c.method_spec.ensures)

pub returns-clause-only : goal.returns-clause-only
returns-clause-only c =
    let counts = c.args.counts.now in
    answers_only (method_spec_at counts) (SpellsMethodSpec counts) (reads_method_spec counts) c.args.blob.now c.placed.result (c.placed.ensures (method_spec_at counts c.args.blob.now) c.method_spec.ensures)

use Rattle.cli_sigs.specs.Signatures.{locals_at}
use Rattle.cli_sigs.specs.Grammar.{SpellsLocals}
use Rattle.cli_sigs.proofs.FiveKinds.{reads_locals, answers_found, answers_only}
use Rattle.cli_sigs.proofs.readers.read_locals.Goals as goal

pub returns-clause-found : goal.returns-clause-found
returns-clause-found c =
    let counts = c.args.counts.now in
    answers_found (locals_at counts) (SpellsLocals counts) (reads_locals counts) c.args.blob.now c.placed.result (c.placed.ensures (locals_at counts c.args.blob.now) c.locals.ensures)

pub returns-clause-only : goal.returns-clause-only
returns-clause-only c =
    let counts = c.args.counts.now in
    answers_only (locals_at counts) (SpellsLocals counts) (reads_locals counts) c.args.blob.now c.placed.result (c.placed.ensures (locals_at counts c.args.blob.now) c.locals.ensures)

use Rattle.cli_sigs.specs.Signatures.{member_at, whole_type_at}
use Rattle.cli_sigs.specs.Grammar.{SpellsMember}
use Rattle.cli_sigs.proofs.FiveKinds.{reads_member, answers_found, answers_only}
use Rattle.cli_sigs.proofs.readers.read_method.Goals as goal

pub returns-clause-found : goal.returns-clause-found
unfolding member_at whole_type_at
returns-clause-found c =
    let counts = c.args.counts.now in
    answers_found (member_at counts) (SpellsMember counts) (reads_member counts) c.args.blob.now c.placed.result (c.placed.ensures (member_at counts c.args.blob.now) c.method.ensures)

pub returns-clause-only : goal.returns-clause-only
unfolding member_at whole_type_at
returns-clause-only c =
    let counts = c.args.counts.now in
    answers_only (member_at counts) (SpellsMember counts) (reads_member counts) c.args.blob.now c.placed.result (c.placed.ensures (member_at counts c.args.blob.now) c.method.ensures)

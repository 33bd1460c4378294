use Rattle.std.proofs.Common.{◌∙◌}
use Rattle.cli_sigs.proofs.Told.{told_is}
use Rattle.cli_sigs.proofs.checks.told_locals.Goals as goal

pub returns-clause-listed : goal.returns-clause-listed
returns-clause-listed c = λ counts xs e. c.number_told.ensures ∙ told_is counts c.args.blob.now xs e

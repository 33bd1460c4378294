use Rattle.std.proofs.Common.{◌∙◌}
use Rattle.clr_base.proofs.Numbers.{number_behind}
use Rattle.clr_base.proofs.little_endian.read_u64.Goals as goal

pub returns : goal.returns
returns c = c.read_u64.ensures ∙ number_behind 8 c.args.at c.args.bytes.now

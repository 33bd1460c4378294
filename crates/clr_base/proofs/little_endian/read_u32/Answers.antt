use Rattle.std.proofs.Common.{◌∙◌}
use Rattle.clr_base.proofs.Numbers.{number_behind}
use Rattle.clr_base.proofs.little_endian.read_u32.Goals as goal

pub returns : goal.returns
returns c = c.read_u32.ensures ∙ number_behind 4 c.args.at c.args.bytes.now

use Rattle.std.proofs.Common.{sym}
use Rattle.core_types.proofs.CoreNames.{def_named}
use Rattle.core_types.proofs.core_parts.def_name.Goals as goal

pub returns : goal.returns
returns c = sym (def_named c.args.number c.requires)

use Rattle.std.proofs.Common.{rules}
use Rattle.core_types.specs.CoreTable.{text}
use Rattle.core_types.proofs.CoreFacts.{now_at}
use Rattle.core_types.proofs.core_rows.core_name.Goals as goal

pub returns : goal.returns
unfolding text
returns c = search (rules, now_at)

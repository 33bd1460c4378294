use Rattle.std.proofs.Common.{rules}
use Rattle.core_types.specs.CoreTable.{method_rows}
use Rattle.core_types.proofs.CoreFacts.{now_at}
use Rattle.core_types.proofs.core_rows.method_rows.Goals as goal

pub returns : goal.returns
unfolding method_rows
returns c = search (rules, now_at)

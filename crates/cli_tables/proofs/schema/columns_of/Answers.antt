use Rattle.std.proofs.Common.{rules, [], map, sym}
use Rattle.std.proofs.Math.ListN.{get_or-eq_default}
use Rattle.cli_tables.specs.Schema.{columns}
use Rattle.cli_tables.specs.declared.schema.TheConstants.{TABLES}
use Rattle.cli_tables.proofs.Constants.{now_at}
use Rattle.cli_tables.proofs.schema.columns_of.Goals as goal

pub returns-then-table-lt-TABLE_COUNT : goal.returns-then-table-lt-TABLE_COUNT
unfolding columns
returns-then-table-lt-TABLE_COUNT c = search (rules, now_at)

pub returns-else-table-lt-TABLE_COUNT : goal.returns-else-table-lt-TABLE_COUNT
unfolding columns
returns-else-table-lt-TABLE_COUNT c = sym (get_or-eq_default (map (λ t. t.now) TABLES) [] c.if-table-lt-TABLE_COUNT.false)

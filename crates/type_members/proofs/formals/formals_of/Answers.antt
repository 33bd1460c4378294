use Rattle.std.proofs.Common.{arith}
use Rattle.cli_tables.specs.Schema.{columns}
use Rattle.type_members.proofs.RowLists.{found_in}
use Rattle.type_members.proofs.formals.formals_of.Goals as goal

pub cell-requires : goal.cell-requires
unfolding columns
cell-requires c =
    let are = found_in c.args.tables.now 0x2A 2 c.args.params.now c.requires.params c.args.owner c.rows-rows.result.now c.rows-rows.ensures in
    record { first = are.first c.loop-row.row-index (omega arith); last = are.last c.loop-row.row-index (omega arith); column = omega arith }

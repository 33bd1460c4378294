use Rattle.type_members.proofs.RowLists.{found_in}
use Rattle.type_members.proofs.formals.constraints_of.Goals as goal

pub types_in-requires-clause-rows : goal.types_in-requires-clause-rows
types_in-requires-clause-rows c = found_in c.args.tables.now 0x2C 0 c.args.constraints.now c.requires.constraints c.args.row c.rows-rows.result.now c.rows-rows.ensures

use Rattle.type_members.proofs.RowLists.{found_in}
use Rattle.type_members.proofs.definitions.interfaces_of.Goals as goal

pub types_in-requires-clause-rows : goal.types_in-requires-clause-rows
types_in-requires-clause-rows c = found_in c.args.tables.now 0x09 0 c.args.interfaces.now c.requires.interfaces c.args.row c.rows-rows.result.now c.rows-rows.ensures

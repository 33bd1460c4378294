use Rattle.type_members.proofs.RowLists.{found_in}
use Rattle.world_build.proofs.method_impls.impls_of.Goals as goal

pub impls_in-requires-clause-rows : goal.impls_in-requires-clause-rows
impls_in-requires-clause-rows c =
    found_in c.args.reader.now.tables 0x19 0 c.args.method_impls.now c.requires.rows c.args.row c.rows-rows.result.now c.rows-rows.ensures

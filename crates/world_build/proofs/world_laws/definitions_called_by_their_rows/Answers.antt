use Rattle.world_build.proofs.NamesOfDefs.{names_of_file}
use Rattle.world_build.proofs.world_laws.definitions_called_by_their_rows.Goals as goal

pub returns : goal.returns
returns c = λ files words roots k m there. names_of_file files k m there c.args._world.now roots.named roots.world

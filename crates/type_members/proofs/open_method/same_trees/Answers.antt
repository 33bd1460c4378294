use Rattle.type_members.proofs.SameTrees.{same_trees_from}
use Rattle.type_members.proofs.open_method.same_trees.Goals as goal

pub returns : goal.returns
returns c = same_trees_from c.same_all.result c.args.ours.now c.args.theirs.now c.same_all.ensures

use Rattle.type_tree.specs.SameLaws.{same_from_iff}
use Rattle.type_pool.specs.contracts.key_nodes.KeyNode as node
use Rattle.type_pool.specs.KeySame.{same_key}
use Rattle.type_pool.proofs.key_nodes.KeyNodePartialEq.eq.Goals as goal

pub returns : goal.returns
unfolding same_key
returns c = same_from_iff node.the_row.coded c.same_key_node.result c.args.self.now c.args.other.now c.same_key_node.ensures

use Rattle.std.proofs.Common.{refl, arith}
use Rattle.clr_base.specs.declared.ids.DefId.{DefId}
use Rattle.node_set.specs.Keys.{Key}
use Rattle.node_set.specs.declared.node.Node.TheVariants.{Head}
use Rattle.board_tests.proofs.nodes.put_head.Goals as goal

pub put-requires-clause-may : goal.put-requires-clause-may
put-requires-clause-may c = let d : DefId = record { 0 = c.args.definition } in
    λ more k within low before inside. ((Head d, refl, (c.requires.narrow, omega arith), (Key.head d, refl, (tt, omega arith))), (k, low, refl, before))

use Rattle.key_closure.proofs.NodeSteps.{node_adds}
use Rattle.key_closure.proofs.closing.add_one.Goals as goal

pub returns-clause-adds : goal.returns-clause-adds
returns-clause-adds c =
    node_adds c.args.pool.now c.args.members.now c.intern.new.self c.args.key c.in_ok-intern.field-0.0 c.each_once.ensures c.each_once-3.ensures c.requires.members c.requires.within
    c.in_ok-intern.ensures.adds c.in_ok-intern.ensures.named

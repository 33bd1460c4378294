use Rattle.std.proofs.Common.{nat_eq, ap₂, ◌∙◌}
use Rattle.type_subs.proofs.NodeTests.{tree_test}
use Rattle.type_subs.proofs.supers.is_listed.Goals as goal

pub returns-clause-is : goal.returns-clause-is
returns-clause-is c =
    ap₂ nat_eq c.len.ensures c.len-before.ensures
    ∙ tree_test c.args.pool.now c.each_once.ensures c.args.keys.now c.intern.new.self c.args.id c.in_ok-intern.field-0.0 c.each_once-2.ensures c.requires.keys c.requires.within
    c.in_ok-intern.ensures.adds c.in_ok-intern.ensures.named

use Rattle.std.proofs.Common.{◌≡◌, true, length, List, Some, slice_get, sym, subst}
use Rattle.type_pool.specs.declared.key_nodes.KeyNode.{KeyNode}
use Rattle.type_pool.specs.Keys.{keys_below}
use Rattle.key_desk.proofs.Keeping.{key_here, put_in, all_below}
use Rattle.key_desk.proofs.work.put.Goals as goal

pub returns-in_err-number-clause-works : goal.returns-in_err-number-clause-works
returns-in_err-number-clause-works c =
    let old = c.args.work.now in
    put_in c.args.world.now old c.intern.new.self c.requires.right (subst (λ (l : List KeyNode). keys_below (length old.pool) l ≡ true) (sym c.in_err-number.ensures.err) c.requires.right.within) c.intern.ensures.grows

pub returns-clause-works : goal.returns-clause-works
returns-clause-works c =
    let old = c.args.work.now in
    put_in c.args.world.now old c.intern.new.self c.requires.right (all_below (length old.pool) old.keys c.intern.new.self c.args.node c.requires.right.within c.requires.node c.in_ok-number.ensures.adds) c.intern.ensures.grows

pub returns-clause-named : goal.returns-clause-named
returns-clause-named c = key_here c.args.work.now.pool c.intern.new.self c.in_ok-number.number.0 c.args.node c.in_ok-number.ensures.named

use Rattle.std.proofs.Common.{arith}
use Rattle.type_expands.proofs.Adding.{none_added, more_added}
use Rattle.type_expands.proofs.rows.add_links.Goals as goal

pub loop-link-init : goal.loop-link-init
loop-link-init c = none_added c.args.spans.now c.args.rows.now.items

pub loop-link-preserved : goal.loop-link-preserved
loop-link-preserved c =
    let k = c.loop-link in
    more_added c.args.spans.now c.args.links.now k.link-index _ c.args.rows.now.items k.rows.items c.add_link.new.rows.items (omega arith) k.invariant c.in_ok-add_link.ensures

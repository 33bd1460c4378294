use Rattle.std.proofs.Common.{◌≡◌, ◌==◌, ◌∙◌, false, length, arith}
use Rattle.type_tree.proofs.TextLemmas.{closed}
use Rattle.type_tree.proofs.text.+text.Goals as goal

pub push_arguments-returns : goal.push_arguments-returns
push_arguments-returns t c =
    let ts = c.args.args.now in
    let some : (length ts == 0) ≡ false = cc in
    let end : c.loop-i.i ≡ length ts = omega arith in
    c.in_ok-push_str-2.ensures.ok ∙ closed c.args.world.now ts c.loop-i.i c.loop-i.text c.args.text.now some end c.loop-i.invariant

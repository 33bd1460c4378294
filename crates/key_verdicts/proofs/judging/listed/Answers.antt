use Rattle.std.proofs.Common.{◌≡◌, ◌++◌, ◌∷◌, [], Some, slice_get, ap, ◌∙◌, sym, arith}
use Rattle.key_verdicts.proofs.Firsts.{one_more}
use Rattle.key_verdicts.proofs.judging.listed.Goals as goal

pub loop-number-preserved : goal.loop-number-preserved
loop-number-preserved c =
    let was = c.loop-number in let k = c.in_ok-copy_key_node.field-0 in
    let here : slice_get c.args.members.now was.number ≡ Some k = c.get.ensures ∙ ap Some (sym c.in_ok-copy_key_node.ensures) in
    c.in_ok-push.ensures.ok ∙ (ap (λ l. l ++ k ∷ []) was.invariant ∙ sym (one_more c.args.members.now was.number k (omega arith) here))

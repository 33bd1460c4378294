use Rattle.std.proofs.Common.{◌≡◌, get_or, true, sym, length, arith}
use Rattle.std.proofs.lemmas.List.Sums.{position_or_len_is}
use Rattle.type_tree.specs.ReadTexts.{is_mark}
use Rattle.type_tree.proofs.read_text.name_len.Goals as goal

pub returns-then-is_mark : goal.returns-then-is_mark
returns-then-is_mark c =
    let text = c.args.text.now in
    let here : is_mark (get_or text c.loop-i.i 0) ≡ true = cc in
    sym (position_or_len_is is_mark text c.loop-i.i 0 (omega arith) c.loop-i.invariant (λ lt. here))

pub returns : goal.returns
returns c =
    let text = c.args.text.now in
    let end : c.loop-i.i ≡ length text = omega arith in
    sym (position_or_len_is is_mark text (length text) 0 (omega arith) (λ k lt. c.loop-i.invariant k (omega arith)) (λ lt. absurd (omega arith)))

use Rattle.std.proofs.Common.{◌≡◌, ℕ, ◌<◌, false, get_or}
use Rattle.type_tree.specs.ReadTexts as texts
use Rattle.type_tree.proofs.read_text.name_len.Given as goal

abbrev pub invariant-loop-i : goal.invariant-loop-i
invariant-loop-i l = (k : ℕ) → k < l.i → texts.is_mark (get_or l.text k 0) ≡ false

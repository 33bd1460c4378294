use Rattle.std.proofs.Common.{◌≡◌, ◌++◌, map, drop, codes}
use Rattle.type_tree.specs.Texts as spec
use Rattle.type_tree.proofs.TextLemmas.{led, opening}
use Rattle.type_tree.proofs.text.+text.Given as goal

abbrev pub invariant-push_arguments-loop-i : goal.invariant-push_arguments-loop-i
invariant-push_arguments-loop-i l = l.text ++ led (opening l.i) (map (spec.type_text l.world) (drop l.i l.args)) ≡ l.initial.text ++ led (codes "[") (map (spec.type_text l.world) l.args)

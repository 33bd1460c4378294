use Rattle.std.proofs.Common.{refl, arith}
use Rattle.clr_base.specs.declared.ids.DefId.{DefId}
use Rattle.word_board.specs.Boards.{view_of}
use Rattle.word_board.specs.Views.{number_of}
use Rattle.node_set.specs.Keys.{Key}
use Rattle.node_set.specs.declared.node.Node.TheVariants.{Head}
use Rattle.node_set.proofs.Probes.{node_may}
use Rattle.board_tests.proofs.SlotPage.{may, lets_node}
use Rattle.board_tests.proofs.slots.put_key.Goals as goal

pub put-requires-clause-may : goal.put-requires-clause-may
put-requires-clause-may c = let d : DefId = record { 0 = 0 } in let v = view_of c.args.seat.now in
    node_may may 128 v.seen (Head d) (number_of v) (omega arith, omega arith) (Key.head d, refl, (tt, omega arith)) (λ more m within low word number rule. lets_node more m low rule)

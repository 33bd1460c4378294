use Rattle.std.proofs.Common.{◌<◌, arith}
use Rattle.clr_base.specs.declared.ids.DefId.{DefId}
use Rattle.clr_base.specs.declared.ids.SigId.{SigId}
use Rattle.word_board.specs.Boards.{view_of}
use Rattle.word_board.specs.Views.{number_of}
use Rattle.node_set.specs.Keys.{Key}
use Rattle.dict_slots.proofs.Standing.{segments_may, slot_may}
use Rattle.board_tests.proofs.SlotPage.{may, lets_node, lets_word}
use Rattle.board_tests.proofs.slots.take.Goals as goal

pub slot_of-requires-clause-segments : goal.slot_of-requires-clause-segments
slot_of-requires-clause-segments c = let d : DefId = record { 0 = 0 } in let sig : SigId = record { 0 = c.args.sig } in let v = view_of c.args.seat.now in let low : c.args.key.0 < 128 = c.requires.key.0 in
    segments_may may 128 v.seen (number_of v) c.args.key sig (Key.head d) (omega arith) c.requires.key (λ segment more m within inside word number rule. lets_node more m inside rule)

pub slot_of-requires-clause-slot : goal.slot_of-requires-clause-slot
slot_of-requires-clause-slot c = let sig : SigId = record { 0 = c.args.sig } in let v = view_of c.args.seat.now in
    slot_may may 128 v.seen (number_of v) c.args.key sig (λ more m within inside word number rule. lets_word more m inside rule)

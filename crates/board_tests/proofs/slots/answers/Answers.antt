use Rattle.std.proofs.Common.{◌<◌, arith}
use Rattle.clr_base.specs.declared.ids.DefId.{DefId}
use Rattle.clr_base.specs.declared.ids.Handle.{Handle}
use Rattle.word_board.specs.Boards.{view_of}
use Rattle.word_board.specs.Views.{number_of}
use Rattle.node_set.specs.Keys.{Key, stands_on}
use Rattle.node_set.specs.declared.node.Node.TheVariants.{DictionarySegment}
use Rattle.dict_slots.proofs.Standing.{dictionary_may, filling_may}
use Rattle.board_tests.proofs.SlotPage.{may, lets_node, lets_word}
use Rattle.board_tests.proofs.slots.answers.Goals as goal

pub segment-requires-clause-may : goal.segment-requires-clause-may
segment-requires-clause-may c = let d : DefId = record { 0 = 0 } in let v = view_of c.args.seat.now in let low : c.args.key.0 < 128 = c.requires.key.0 in
    dictionary_may may 128 v.seen (number_of v) c.args.key 1 (Key.head d) (omega arith, omega arith) c.requires.key (λ more m within inside word number rule. lets_node more m inside rule)

pub fill-own-requires-clause-may : goal.fill-own-requires-clause-may
fill-own-requires-clause-may c = let h : Handle = record { 0 = 9 } in let u = view_of c.segment.new.seat in let v = view_of c.read-before.new.seat in let n = DictionarySegment c.args.key 1 in
    filling_may may 128 v.seen (number_of v) c.args.key 1 c.in_ok-cell.cell.0 8 h (stands_on 128 u.seen v.seen c.read-before.ensures.view.0.0 c.in_ok-cell.cell.0 n c.in_ok-cell.ensures.cell) (omega arith) (omega arith)
    (λ more m within inside word number rule. lets_word more m inside rule)

pub fill-other-requires-clause-may : goal.fill-other-requires-clause-may
fill-other-requires-clause-may c = let h : Handle = record { 0 = 5 } in let u = view_of c.segment.new.seat in let v = view_of c.fill-own.new.seat in let n = DictionarySegment c.args.key 1 in
    filling_may may 128 v.seen (number_of v) c.args.key 1 c.in_ok-cell.cell.0 8 h (stands_on 128 u.seen v.seen (λ m has. c.fill-own.ensures.view.0 m (c.read-before.ensures.view.0.0 m has)) c.in_ok-cell.cell.0 n c.in_ok-cell.ensures.cell) (omega arith) (omega arith)
    (λ more m within inside word number rule. lets_word more m inside rule)

pub read-after-requires-clause-segment : goal.read-after-requires-clause-segment
read-after-requires-clause-segment c = let u = view_of c.segment.new.seat in let v = view_of c.fill-other.new.seat in
    (c.args.key, stands_on 128 u.seen v.seen (λ m has. c.fill-other.ensures.view.0 m (c.fill-own.ensures.view.0 m (c.read-before.ensures.view.0.0 m has))) c.in_ok-cell.cell.0 (DictionarySegment c.args.key 1) c.in_ok-cell.ensures.cell)

use Rattle.std.proofs.Common.{arith}
use Rattle.word_board.specs.Marks.{mark}
use Rattle.word_board.specs.Boards.{view_of}
use Rattle.word_board.specs.Views.{number_of}
use Rattle.word_board.proofs.Growing.{sees, sets, grown_same, grown_on}
use Rattle.word_board.proofs.board.Board.settle.Goals as goal

pub returns-then-found-ne0-clause-word : goal.returns-then-found-ne0-clause-word
returns-then-found-ne0-clause-word g c = let t = c.look-found.ensures.seen c.if-found-ne0.true in let ne = c.if-found-ne0.true in
    (omega arith, (t.0, (sees (view_of c.args.seat.now) (view_of c.look-found.new.seat) (mark c.args.place c.look-found.result t.0) t.1).0))

pub returns-then-found-ne0-clause-view : goal.returns-then-found-ne0-clause-view
returns-then-found-ne0-clause-view g c = let t = c.look-found.ensures.seen c.if-found-ne0.true in
    (sees (view_of c.args.seat.now) (view_of c.look-found.new.seat) (mark c.args.place c.look-found.result t.0) t.1).1

pub returns-then-old-ne0-clause-word : goal.returns-then-old-ne0-clause-word
returns-then-old-ne0-clause-word g c = let t = c.set-old.ensures.seen c.if-old-ne0.true in let ne = c.if-old-ne0.true in
    (omega arith, (t.0, (sees (view_of c.look-found.new.seat) (view_of c.set-old.new.seat) (mark c.args.place c.set-old.result t.0) t.1).0))

pub returns-then-old-ne0-clause-view : goal.returns-then-old-ne0-clause-view
returns-then-old-ne0-clause-view g c = let t = c.set-old.ensures.seen c.if-old-ne0.true in
    grown_on (view_of c.args.seat.now) (view_of c.look-found.new.seat) (view_of c.set-old.new.seat) (grown_same (view_of c.args.seat.now) (view_of c.look-found.new.seat) (c.look-found.ensures.none c.if-found-ne0.false).0)
    (sees (view_of c.look-found.new.seat) (view_of c.set-old.new.seat) (mark c.args.place c.set-old.result t.0) t.1).1

pub returns-else-old-ne0-clause-word : goal.returns-else-old-ne0-clause-word
returns-else-old-ne0-clause-word g c = let by = number_of (view_of c.look-found.new.seat) in
    (c.requires.word, (by, (sets (view_of c.look-found.new.seat) (view_of c.set-old.new.seat) (mark c.args.place c.args.word by) (c.set-old.ensures.set c.if-old-ne0.false)).0))

pub returns-else-old-ne0-clause-view : goal.returns-else-old-ne0-clause-view
returns-else-old-ne0-clause-view g c = let by = number_of (view_of c.look-found.new.seat) in
    grown_on (view_of c.args.seat.now) (view_of c.look-found.new.seat) (view_of c.set-old.new.seat) (grown_same (view_of c.args.seat.now) (view_of c.look-found.new.seat) (c.look-found.ensures.none c.if-found-ne0.false).0)
    (sets (view_of c.look-found.new.seat) (view_of c.set-old.new.seat) (mark c.args.place c.args.word by) (c.set-old.ensures.set c.if-old-ne0.false)).1

use Rattle.word_board.specs.Boards.{view_of, page_of}
use Rattle.key_publish.proofs.Moving.{moved_on}
use Rattle.key_publish.proofs.Parts.{spelled_on}
use Rattle.key_publish.proofs.publishing.publish.Goals as goal

pub raise-handle-requires-clause-plan : goal.raise-handle-requires-clause-plan
raise-handle-requires-clause-plan g c = let page = page_of c.args.board.now in let p = c.requires.plan in
    let old = (view_of c.args.seat.now).seen in let new = (view_of c.lay.new.seat).seen in
    (p.0, p.1, λ k there. g.P.Rows.granted_stays page old new k c.lay.ensures.moved.0.0 (p.2 k there))

pub returns-clause-handles : goal.returns-clause-handles
returns-clause-handles g c = let cells = g.P.Page.cell_count (page_of c.args.board.now) in let laid = c.in_ok-lay.ensures.laid in
    (laid.long, spelled_on cells (view_of c.lay.new.seat).seen (view_of c.raise-handle.new.seat).seen c.raise-handle.ensures.moved.0.0 c.args.parts.now c.lay.new.handles.items laid.spelled)

pub returns-clause-moved : goal.returns-clause-moved
returns-clause-moved g c = moved_on (g.P.Page.cell_count (page_of c.args.board.now)) (view_of c.args.seat.now) (view_of c.lay.new.seat) (view_of c.raise-handle.new.seat) c.lay.ensures.moved c.raise-handle.ensures.moved

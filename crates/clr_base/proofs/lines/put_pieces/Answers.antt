use Rattle.std.proofs.lemmas.Result.{err_from_is_err_and}
use Rattle.clr_base.specs.Pieces.{spelling}
use Rattle.clr_base.proofs.Content.{prefix_of_pieces}
use Rattle.clr_base.proofs.lines.put_pieces.Goals as goal

pub returns-in_err-put_piece-clause-text : goal.returns-in_err-put_piece-clause-text
returns-in_err-put_piece-clause-text g c =
    let p = err_from_is_err_and c.from_residual.result c.from_residual.ensures.1 in
    rw p.1 (prefix_of_pieces spelling _ _ _ c.args.pieces.now c.loop-piece.piece-index _ c.loop-piece-test.true c.loop-piece.invariant.written c.in_err-put_piece.ensures.text)

use Rattle.std.proofs.Common.{sym, [], ◌∷◌}
use Rattle.std.proofs.lemmas.List.{append-nil}
use Rattle.image_write.specs.Pieces.{zeros}
use Rattle.image_write.proofs.Appending.{zeros_none, zeros_more, one_more}
use Rattle.image_write.proofs.pieces.push_zeros.Goals as goal

pub loop-init : goal.loop-init
loop-init c = rw zeros_none (sym (append-nil _))

pub loop-preserved : goal.loop-preserved
loop-preserved c =
    one_more _ (zeros c.loop.counter) (0 ∷ []) _ _ _ c.loop.invariant c.in_ok-push.ensures.items (zeros_more c.loop.counter)

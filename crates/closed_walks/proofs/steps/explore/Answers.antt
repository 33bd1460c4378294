use Rattle.std.proofs.Common.{sym, subst}
use Rattle.closed_walks.specs.Invariant.{IsSearch}
use Rattle.closed_walks.proofs.Whole.{first_keeps}
use Rattle.closed_walks.proofs.steps.explore.Goals as goal

pub loop-start-init : goal.loop-start-init
loop-start-init c = record {
  known = subst (IsSearch c.args.graph.now) (sym c.in_ok-enter.ensures) (first_keeps c.args.graph.now c.args.search.now c.requires.known c.requires.idle c.args.node c.requires.unseen);
  stays = λ n e. e;
}

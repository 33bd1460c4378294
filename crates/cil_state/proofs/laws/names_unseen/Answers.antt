use Rattle.cil_state.proofs.Natural as natural
use Rattle.cil_state.proofs.laws.names_unseen.Goals as goal

pub returns : goal.returns
returns g c = record {
  top = natural.top-natural;
  below = natural.below-natural;
  zeroed = natural.zeroed-natural;
  variable = natural.variable-natural;
  loaded = natural.loaded-natural;
  assigned = natural.assigned-natural;
  enter = natural.enter-natural;
  leave = natural.leave-natural;
}

use Rattle.std.proofs.Common.{length, take, ◌-◌, ◌≡◌, ◌≤◌}
use Rattle.clr_base.specs.Content.{then_bytes}
use Rattle.clr_base.proofs.lines.put_all.Given as goal

abbrev pub invariant-loop-at : goal.invariant-loop-at
invariant-loop-at g l = record {
  within : l.at ≤ length l.text;
  calm : g.S.Sink.faults l.sink ≡ g.S.Sink.faults l.initial.sink;
  written : g.S.Sink.content l.sink ≡ then_bytes (g.S.Sink.content l.initial.sink) (take l.at l.text);
}

abbrev pub decreases-loop-at : goal.decreases-loop-at
decreases-loop-at g l = length l.text - l.at

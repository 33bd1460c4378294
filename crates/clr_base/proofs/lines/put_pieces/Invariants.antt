use Rattle.std.proofs.Common.{take, ◌≡◌, ◌≤◌}
use Rattle.clr_base.specs.Pieces.{line_of}
use Rattle.clr_base.specs.Content.{then_bytes}
use Rattle.clr_base.proofs.lines.put_pieces.Given as goal

abbrev pub invariant-loop-piece : goal.invariant-loop-piece
invariant-loop-piece g l = record {
  calm : g.S.Sink.faults l.sink ≡ g.S.Sink.faults l.initial.sink;
  written : g.S.Sink.content l.sink ≡ then_bytes (g.S.Sink.content l.initial.sink) (line_of (take l.piece-index l.pieces));
}

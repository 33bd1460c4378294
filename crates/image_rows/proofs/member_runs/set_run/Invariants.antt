use Rattle.std.proofs.Common.{◌≤◌, max}
use Rattle.image_rows.proofs.Runs.{RunSet}
use Rattle.image_rows.proofs.member_runs.set_run.Given as goal

abbrev pub invariant-loop-row : goal.invariant-loop-row
invariant-loop-row l = record { set : RunSet l.first l.row l.owner l.initial.owners l.owners; last : l.row ≤ max l.start l.stop }

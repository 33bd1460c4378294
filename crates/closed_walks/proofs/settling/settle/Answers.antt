use Rattle.std.proofs.Common.{◌<◌, ◌∙◌, length, arith}
use Rattle.closed_walks.proofs.States.{settle_step}
use Rattle.closed_walks.proofs.settling.settle.Goals as goal

pub loop-path-preserved-in-Some : goal.loop-path-preserved-in-Some
loop-path-preserved-in-Some c =
    let k = c.loop-path in
    let more : c.args.place < length k.path = omega arith in
    let r = settle_step c.args.found c.args.place k.path c.pop.new.self c.in-Some.node k.states c.set_state.new.states c.in-Some.ensures more c.set_state.ensures in
    record { within = r.0; path = r.1 ∙ k.invariant.path; states = r.2 ∙ k.invariant.states }

use Rattle.std.proofs.Common.{arith}
use Rattle.def_faults.proofs.Lists.{one_known}
use Rattle.def_faults.proofs.Noting.{entered}
use Rattle.def_faults.proofs.chains.enter.Goals as goal

pub returns-clause-marked : goal.returns-clause-marked
returns-clause-marked c =
    rw (c.set.ensures, c.in_ok-push.ensures.ok) (entered c.args.world.now c.args.marks.now c.args.path.now c.requires.marked c.args.id c.requires.unknown)

pub returns-clause-fewer : goal.returns-clause-fewer
returns-clause-fewer c =
    let one = one_known c.args.marks.now c.args.id.0 c.requires.unknown in
    rw c.set.ensures (omega (arith, one))

use Rattle.std.proofs.Common.{◌-◌, arith, take, length}
use Rattle.closed_walks.proofs.Lists.{last_of}
use Rattle.closed_walks.proofs.search.last.Goals as goal

pub returns-else-count-eq0 : goal.returns-else-count-eq0
returns-else-count-eq0 c = (take (length c.args.list.now - 1) c.args.list.now, last_of c.args.list.now (omega arith))

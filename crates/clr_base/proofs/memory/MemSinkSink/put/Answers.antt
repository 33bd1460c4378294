use Rattle.std.proofs.Common.{rules, arith, inl, inr}
use Rattle.clr_base.proofs.memory.MemSinkSink.put.Goals as goal
use Rattle.clr_base.proofs.memory.MemSinkSink.put.Goals.{then-contains-via-then-contains, then-contains-via-else-contains+then-room-eq0}

pub returns-then-contains-clause-only : goal.returns-then-contains-clause-only
returns-then-contains-clause-only c _ =
    elim c.then-contains.branch [
      | then-contains-via-then-contains w ↦ inl (search rules)
      | then-contains-via-else-contains+then-room-eq0 w ↦ inr (omega arith)
    ]

-- The verdict of a key of a world.
use Rattle.std.specs.Prelude.{Option}
use Rattle.type_tree.specs.declared.tree.Key.{Key}
use Rattle.type_tree.specs.World.{Facts}
use Rattle.load_events.specs.declared.load_fault.LoadFault.{LoadFault}
use Rattle.key_verdicts.specs.declared.verdict.Verdict.{Verdict}
use Rattle.key_verdicts.specs.Verdicts.{IsVerdict}
use Rattle.type_judge.specs.Table.{IsLocal}

-- by the first fault of each key in the order of the table
pub record IsJudged (w : Facts) (key : Key) (v : Verdict) : Type 0 where
  pub local : Key → Option LoadFault
  pub is : (k : Key) → IsLocal w k (local k)
  pub verdict : IsVerdict local w key v

use Rattle.std.proofs.Common.{◌≡◌, sym, subst}
use Rattle.type_tree.specs.World.{Facts}
use Rattle.key_faults.specs.Told.{IsTold}
use Rattle.key_desk.proofs.desk.Desk.new.Goals as goal

pub invariant_of-result : goal.invariant_of-result
invariant_of-result c = (subst (λ (w : Facts). IsTold w c.in_ok-told.told) (sym c.of-2.ensures) c.in_ok-told.ensures, c.no_work.ensures.right c.of-2.result.value)

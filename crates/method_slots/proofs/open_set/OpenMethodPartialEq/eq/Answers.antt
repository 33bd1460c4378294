use Rattle.type_tree.specs.SameLaws.{same_from_iff}
use Rattle.method_slots.specs.contracts.opens.OpenMethod as row
use Rattle.method_slots.specs.OpenSame.{same_numbers}
use Rattle.method_slots.proofs.open_set.OpenMethodPartialEq.eq.Goals as goal

pub returns : goal.returns
unfolding same_numbers
returns c = same_from_iff row.the_row.coded c.same_numbers.result c.args.self.now c.args.other.now c.same_numbers.ensures

use Rattle.std.proofs.Common.{◌+◌, ◌*◌}
use Rattle.field_layout.proofs.classes.+classes.Given as goal

abbrev pub decreases-end_in : goal.decreases-end_in
decreases-end_in l = 4 * l.chain + 3

abbrev pub decreases-end_of_head : goal.decreases-end_of_head
decreases-end_of_head l = 4 * l.chain + 2

abbrev pub decreases-end_at : goal.decreases-end_at
decreases-end_at l = 4 * l.parents + 5

abbrev pub decreases-parent_end : goal.decreases-parent_end
decreases-parent_end l = 4 * l.parents + 4

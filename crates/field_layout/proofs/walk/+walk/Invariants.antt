use Rattle.std.proofs.Common.{◌+◌, ◌*◌}
use Rattle.field_layout.proofs.Walks.{Shaping}
use Rattle.field_layout.proofs.walk.+walk.Given as goal

abbrev pub decreases-shape_in : goal.decreases-shape_in
decreases-shape_in l = 8 * l.room + 3

abbrev pub decreases-shape_of_level : goal.decreases-shape_of_level
decreases-shape_of_level l = 8 * l.room + 2

abbrev pub decreases-struct_in : goal.decreases-struct_in
decreases-struct_in l = 8 * l.room + 6

abbrev pub decreases-fields_in : goal.decreases-fields_in
decreases-fields_in l = 8 * l.room + 5

abbrev pub decreases-shapes_in : goal.decreases-shapes_in
decreases-shapes_in l = 8 * l.room + 4

abbrev pub invariant-shapes_in-loop-id : goal.invariant-shapes_in-loop-id
invariant-shapes_in-loop-id l = Shaping l.world l.fn.pool l.types l.room l.id-index l.pool l.notes l.fields

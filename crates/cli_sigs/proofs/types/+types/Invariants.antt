use Rattle.std.proofs.Common.{◌≡◌, ◌+◌, ◌-◌, ◌*◌}
use Rattle.cli_sigs.specs.Reading.{repeated}
use Rattle.cli_sigs.specs.Types as spec
use Rattle.cli_sigs.proofs.Repeats.{with_front}
use Rattle.cli_sigs.proofs.types.+types.Given as goal

-- Each level is left by a call of constructed, and the functions below it call down to type_of.
abbrev pub decreases-type_of : goal.decreases-type_of
decreases-type_of l = 8 * l.levels

abbrev pub decreases-marked_type : goal.decreases-marked_type
decreases-marked_type l = 8 * l.levels + 1

abbrev pub decreases-target : goal.decreases-target
decreases-target l = 8 * l.levels + 1

abbrev pub decreases-types : goal.decreases-types
decreases-types l = 8 * l.levels + 1

abbrev pub decreases-params : goal.decreases-params
decreases-params l = 8 * l.levels + 2

abbrev pub decreases-array : goal.decreases-array
decreases-array l = 8 * l.levels + 3

abbrev pub decreases-generic_inst : goal.decreases-generic_inst
decreases-generic_inst l = 8 * l.levels + 3

abbrev pub decreases-method : goal.decreases-method
decreases-method l = 8 * l.levels + 3

abbrev pub decreases-constructed : goal.decreases-constructed
decreases-constructed l = 8 * l.levels + 4

abbrev pub invariant-types-loop : goal.invariant-types-loop
invariant-types-loop l = with_front l.list (repeated (spec.type_at l.counts l.levels) (l.count - l.counter) l.rest) ≡ repeated (spec.type_at l.counts l.levels) l.count l.bytes

abbrev pub invariant-params-loop : goal.invariant-params-loop
invariant-params-loop l = with_front l.list (repeated (spec.param_at l.counts (spec.type_at l.counts l.levels)) (l.count - l.counter) l.rest)
    ≡ repeated (spec.param_at l.counts (spec.type_at l.counts l.levels)) l.count l.bytes

use Rattle.std.proofs.Common.{◌≡◌, ◌+◌, ◌-◌, ◌*◌}
use Rattle.cli_sigs.specs.Reading.{behind, repeated}
use Rattle.cli_sigs.specs.Types as spec
use Rattle.cli_sigs.proofs.past.+past.Given as goal

-- Each level is left by a call of past_constructed, and the functions below it call down to past_type.
abbrev pub decreases-past_type : goal.decreases-past_type
decreases-past_type l = 8 * l.levels

abbrev pub decreases-past_marked_type : goal.decreases-past_marked_type
decreases-past_marked_type l = 8 * l.levels + 1

abbrev pub decreases-past_target : goal.decreases-past_target
decreases-past_target l = 8 * l.levels + 1

abbrev pub decreases-past_types : goal.decreases-past_types
decreases-past_types l = 8 * l.levels + 1

abbrev pub decreases-past_params : goal.decreases-past_params
decreases-past_params l = 8 * l.levels + 2

abbrev pub decreases-past_array : goal.decreases-past_array
decreases-past_array l = 8 * l.levels + 3

abbrev pub decreases-past_generic_inst : goal.decreases-past_generic_inst
decreases-past_generic_inst l = 8 * l.levels + 3

abbrev pub decreases-past_method : goal.decreases-past_method
decreases-past_method l = 8 * l.levels + 3

abbrev pub decreases-past_constructed : goal.decreases-past_constructed
decreases-past_constructed l = 8 * l.levels + 4

abbrev pub invariant-past_types-loop : goal.invariant-past_types-loop
invariant-past_types-loop l = behind (repeated (spec.type_at l.counts l.levels) (l.count - l.counter) l.rest) ≡ behind (repeated (spec.type_at l.counts l.levels) l.count l.bytes)

abbrev pub invariant-past_params-loop : goal.invariant-past_params-loop
invariant-past_params-loop l = behind (repeated (spec.param_at l.counts (spec.type_at l.counts l.levels)) (l.count - l.counter) l.rest)
    ≡ behind (repeated (spec.param_at l.counts (spec.type_at l.counts l.levels)) l.count l.bytes)

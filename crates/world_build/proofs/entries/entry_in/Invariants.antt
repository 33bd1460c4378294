use Rattle.std.proofs.Common.{◌≡◌, ◌+◌, ◌-◌, slice_get}
use Rattle.std.specs.List.{find, range_with_len}
use Rattle.world_build.specs.Entries as spec
use Rattle.world_build.proofs.entries.entry_in.Given as goal

abbrev pub invariant-loop-own : goal.invariant-loop-own
invariant-loop-own l =
    find (λ n. spec.is_entry_at l.world l.name (slice_get l.world.methods n)) (range_with_len (l.def.first_method + l.own) (l.def.methods - l.own))
    ≡ spec.entry_in l.world l.name l.fn.id

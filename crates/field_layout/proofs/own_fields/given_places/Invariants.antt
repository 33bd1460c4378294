use Rattle.field_layout.proofs.Runs.{Giving}
use Rattle.field_layout.proofs.own_fields.given_places.Given as goal

abbrev pub invariant-loop-number : goal.invariant-loop-number
invariant-loop-number l = Giving l.world l.def l.number l.places

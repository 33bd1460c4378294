-- A walk over the headers, which has passed those before k, fails at the header k.
use Rattle.std.proofs.Common.{◌≡◌, ℕ, ◌<◌, List, Ok, Err}
use Rattle.clr_base.specs.declared.image_fault.ImageFault.{ImageFault}
use Rattle.clr_base.specs.Checks.{outcome, first_fault, each}
use Rattle.clr_base.proofs.Checks.{each_failed, outcome_of_fault}
use Rattle.cli_tables.specs.declared.streams.Streams.{Streams}
use Rattle.cli_tables.specs.Streams.{one_header, header_checks, place, found}

pub header_failed : (bytes : List ℕ) (first k n at next : ℕ) (streams x : Streams) (f : ImageFault) → k < n
    → first_fault (each k (header_checks bytes first)) ≡ Ok (tt {0}) → at ≡ place bytes first k → streams ≡ found bytes first k
    → outcome (one_header bytes streams at) next ≡ Err f → outcome (each n (header_checks bytes first)) x ≡ Err f
header_failed bytes first k n at next streams x f within passed at_is streams_is failed =
    let here : outcome (one_header bytes (found bytes first k) (place bytes first k)) next ≡ Err f = cc in
    each_failed k n (header_checks bytes first) x f within passed (outcome_of_fault (one_header bytes (found bytes first k) (place bytes first k)) next (tt {0}) f here)

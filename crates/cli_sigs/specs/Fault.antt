-- Where reading stopped, as a place in the blob.
use Rattle.std.specs.Prelude.{ℕ, ◌-◌, List, length, Result, Ok, Err}
use Rattle.cli_sigs.specs.declared.fault.SigFault.{SigFault}
use Rattle.cli_sigs.specs.declared.fault.SigFault.TheVariants as fault
use Rattle.cli_sigs.specs.declared.fault.Stop.{Stop}
use Rattle.cli_sigs.specs.declared.fault.Stop.TheVariants as stop
use Rattle.cli_sigs.specs.Reading.{Answer}

abbrev pub fault_in : List ℕ → Stop → SigFault
fault_in blob stop.Memory = fault.Memory
fault_in blob (stop.Left left) = fault.Bad (length blob - left)

-- what a check answers, by what stands behind the blob's front
abbrev pub reached : List ℕ → Answer (List ℕ) → Result (Unit {0}) SigFault
reached blob (Ok rest) = Ok (tt {0})
reached blob (Err left) = Err (fault.Bad (length blob - left))

-- What checks that need memory answer.
use Rattle.std.specs.Prelude.{◌≡◌, List, Result, Ok, Err}
use Rattle.clr_base.specs.declared.image_fault.ImageFault.{ImageFault}
use Rattle.clr_base.specs.Checks.{Check, first_fault}
use Rattle.image_rows.specs.declared.refusal.Refusal.{Refusal}
use Rattle.image_rows.specs.declared.refusal.Refusal.TheVariants.{Fault, Memory}

-- What is answered is what is wanted, value or fault. Want of memory says nothing.
abbrev pub GivesOutcome : {X : Type 0} → Result X Refusal → Result X ImageFault → Type 0
GivesOutcome (Ok x) wanted = wanted ≡ Ok x
GivesOutcome (Err (Fault fault)) wanted = wanted ≡ Err fault
GivesOutcome (Err Memory) wanted = Unit {0}

-- the same for a list of checks
abbrev pub Gives : Result (Unit {0}) Refusal → List Check → Type 0
Gives result checks = GivesOutcome result (first_fault checks)

-- Ordered checks: each is a test and the fault of an input that fails it. The first that fails decides.
use Rattle.std.specs.Prelude.{ℕ, zero, suc, Bool, List, [], ◌∷◌, ◌++◌, if◌then◌else◌, Result, Ok, Err}
use Rattle.clr_base.specs.declared.image_fault.FaultKind.{FaultKind}
use Rattle.clr_base.specs.declared.image_fault.ImageFault.{ImageFault}

pub record Check : Type 0 where
  pub passes : Bool
  pub fault : ImageFault

-- a test, and the fault of a file that fails it: its kind and its place
abbrev pub check : Bool → FaultKind → ℕ → Check
check passes kind place = record { passes = passes; fault = record { kind = kind; place = place } }

-- the fault of the first check that fails, or the value where none does
abbrev pub outcome : {X : Type 0} → List Check → X → Result X ImageFault
outcome [] x = Ok x
outcome (c ∷ cs) x = if c.passes then outcome cs x else Err c.fault

-- the first fault, or none
abbrev pub first_fault : List Check → Result (Unit {0}) ImageFault
first_fault checks = outcome checks (tt {0})

-- the checks pass
abbrev pub none_of : Result (Unit {0}) ImageFault
none_of = Ok (tt {0})

-- the fault of the one, or else what the other gives
abbrev pub after : {X Y : Type 0} → Result X ImageFault → Result Y ImageFault → Result Y ImageFault
after (Ok x) next = next
after (Err fault) next = Err fault

-- the checks of each number below n, in order: of each row of a table, say
unfoldable pub each : ℕ → (ℕ → List Check) → List Check
each zero checks = []
each (suc n) checks = each n checks ++ checks n

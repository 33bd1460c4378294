-- How much a job may write and execute.
use Rattle.std.specs.Prelude.{ℕ, zero, suc, ◌+◌, nat_le, Bool, true, false, List, length, ◌++◌, Result, Ok}
use Rattle.cil_state.specs.declared.limits.TheConstants.{OUTPUT_LIMIT}
use Rattle.cil_state.specs.declared.trap.Trap.{Trap}
use Rattle.cil_state.specs.declared.trap.Trap.TheVariants as trap
use Rattle.cil_state.specs.Meets.{next, guard}

-- the output with a text behind it, all of it or none
abbrev pub written : List ℕ → List ℕ → Result (List ℕ) Trap
written text output = next (guard (nat_le (length output + length text) OUTPUT_LIMIT) trap.OutputFull) (λ _. Ok (output ++ text))

-- whether there is fuel for one instruction, and what is left
abbrev pub spent : ℕ → Bool × ℕ
spent zero = (false, 0)
spent (suc n) = (true, n)

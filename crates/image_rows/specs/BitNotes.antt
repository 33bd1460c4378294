-- Numbers that are noted: a bit for each, in bytes.
use Rattle.std.specs.Prelude.{◌≡◌, ℕ, ◌/◌, ◌%◌, Bool, true, ◌==◌, List, get_or}
use Rattle.std.specs.Int.{bit_at}

abbrev pub is_noted : List ℕ → ℕ → Bool
is_noted noted number = bit_at (get_or noted (number / 8) 0) (number % 8) == 1

-- each number that is noted has passed a test
pub record HavePassed (test : ℕ → Bool) (noted : List ℕ) : Type 0 where
  pub each : (number : ℕ) → is_noted noted number ≡ true → test number ≡ true

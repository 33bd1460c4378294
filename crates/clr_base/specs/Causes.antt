-- Counts of what happened outside: how often a file was asked for, how many were given, and how often a thing failed.
use Rattle.std.specs.Prelude.{◌≡◌, ℕ, zero, suc, ◌+◌, ◌-◌, ◌^◌, max, min, Result, Ok, Err}
use Rattle.clr_base.specs.declared.outside.FetchFault.{FetchFault}
use Rattle.clr_base.specs.declared.outside.FetchFault.TheVariants as fetch

-- one more, up to the last value of a count, where it stays
abbrev pub counted : ℕ → ℕ
counted n = max n (min (n + 1) (2 ^ 64 - 1))

-- so many more, one by one
abbrev pub counted_times : ℕ → ℕ → ℕ
counted_times zero n = n
counted_times (suc k) n = counted (counted_times k n)

-- The count rises by one exactly where the call fails.
abbrev pub Counts : {T E : Type 0} → ℕ → ℕ → Result T E → Type 0
Counts before now (Ok value) = now ≡ before
Counts before now (Err fault) = now ≡ counted before

-- The same of a call that may also run out of memory, which is no fault.
abbrev pub FetchCounts : {T : Type 0} → ℕ → ℕ → Result T FetchFault → Type 0
FetchCounts before now (Ok value) = now ≡ before
FetchCounts before now (Err fetch.Failed) = now ≡ counted before
FetchCounts before now (Err fetch.Memory) = now ≡ before

-- The count of files that were given rises by one exactly where the call gives one.
abbrev pub GivenCounts : {T E : Type 0} → ℕ → ℕ → Result T E → Type 0
GivenCounts before now (Ok value) = now ≡ counted before
GivenCounts before now (Err fault) = now ≡ before

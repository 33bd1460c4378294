-- Numbers in a list of bytes, the lowest byte first. Past the end of the list a byte reads as 0.
use Rattle.std.specs.Prelude.{ℕ, ◌+◌, List, length, Bool, nat_le}
use Rattle.byteorder.specs.Endian.{little_from}

-- the number in n bytes at a place
unfoldable pub number_at : ℕ → List ℕ → ℕ → ℕ
number_at n bytes at = little_from at n bytes

abbrev pub u16_at : List ℕ → ℕ → ℕ
u16_at bytes at = number_at 2 bytes at

abbrev pub u32_at : List ℕ → ℕ → ℕ
u32_at bytes at = number_at 4 bytes at

abbrev pub u64_at : List ℕ → ℕ → ℕ
u64_at bytes at = number_at 8 bytes at

-- n bytes at a place lie in the list
abbrev pub has_range : List ℕ → ℕ → ℕ → Bool
has_range bytes at n = nat_le (at + n) (length bytes)

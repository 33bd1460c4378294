-- Pieces that bytes are made of.
use Rattle.std.specs.Prelude.{ℕ, zero, suc, ◌+◌, ◌-◌, ◌*◌, ◌/◌, List, [], ◌∷◌, ◌++◌, length, Bool, nat_le, ◌==◌, if◌then◌else◌}
use Rattle.std.proofs.Math.ListN.{replicate}
use Rattle.byteorder.specs.Endian.{little_bytes, little_number}
use Rattle.image_write.specs.declared.pieces.Field.{Field}

-- the lowest n bytes of a number, the lowest first
unfoldable pub bytes_of : ℕ → ℕ → List ℕ
bytes_of n x = little_bytes n x

unfoldable pub zeros : ℕ → List ℕ
zeros n = replicate n 0

-- the next multiple of 4
abbrev pub rounded : ℕ → ℕ
rounded n = 4 * ((n + 3) / 4)

-- bytes, and zeros up to a multiple of 4
unfoldable pub padded : List ℕ → List ℕ
padded xs = xs ++ zeros (rounded (length xs) - length xs)

-- the same, but no bytes are four zeros
unfoldable pub filled : List ℕ → List ℕ
filled xs = if length xs == 0 then zeros 4 else padded xs

-- a number of n bytes at a place in a structure
abbrev pub field : ℕ → ℕ → ℕ → Field
field at n x = record { at = at; width = n; value = x }

-- the same of a text
abbrev pub text_field : ℕ → ℕ → List ℕ → Field
text_field at n text = field at n (little_number n text)

-- a number of at most 8 bytes
abbrev pub is_narrow : Field → Bool
is_narrow f = nat_le f.width 8

-- the bytes of a structure from a place on, up to its end: the fields stand at their places, and zeros fill the rest
unfoldable pub structure : ℕ → ℕ → List Field → List ℕ
structure from end [] = zeros (end - from)
structure from end (f ∷ fs) = zeros (f.at - from) ++ (bytes_of f.width f.value ++ structure (f.at + f.width) end fs)

-- the lists f 0, f 1 and on, below n, one after the other
unfoldable pub joined : ℕ → (ℕ → List ℕ) → List ℕ
joined zero f = []
joined (suc n) f = joined n f ++ f n

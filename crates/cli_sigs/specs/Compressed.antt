-- Compressed numbers (II.23.2), and the numbers that name a row.
use Rattle.std.specs.Prelude.{ℕ, ◌+◌, ◌-◌, ◌*◌, ◌/◌, ◌%◌, Bool, ◌&&◌, not, nat_lt, nat_le, ◌==◌, List, [], ◌∷◌, Ok, if◌then◌else◌}
use Rattle.cli_sigs.specs.declared.signature.RowCounts.{RowCounts}
use Rattle.cli_sigs.specs.Reading.{Part, ◌>>=◌, refused, passing, repeated}

-- behind 10xxxxxx one more byte
abbrev pub two_bytes_at : ℕ → List ℕ → Part ℕ
two_bytes_at a (b ∷ rest) = Ok ((a - 0x80) * 0x100 + b, rest)
two_bytes_at a [] = refused (a ∷ [])

-- behind 110xxxxx three more, the first the highest
abbrev pub four_bytes_at : ℕ → List ℕ → Part ℕ
four_bytes_at a (b ∷ c ∷ d ∷ rest) = Ok ((((a - 0xC0) * 0x100 + b) * 0x100 + c) * 0x100 + d, rest)
four_bytes_at a rest = refused (a ∷ rest)

-- a number: 0xxxxxxx, or 10xxxxxx and one byte, or 110xxxxx and three. One that is cut is refused at its first byte.
abbrev pub number_at : List ℕ → Part ℕ
number_at [] = refused []
number_at (a ∷ rest) =
    if nat_lt a 0x80 then Ok (a, rest)
    else if nat_lt a 0xC0 then two_bytes_at a rest
    else if nat_lt a 0xE0 then four_bytes_at a rest
    else refused (a ∷ rest)

-- the rows of the table that a TypeDefOrRef number's two low bits name (II.23.2.8); the fourth value names none
abbrev pub rows_of : RowCounts → ℕ → ℕ
rows_of counts tag =
    if tag == 0 then counts.type_def
    else if tag == 1 then counts.type_ref
    else if tag == 2 then counts.type_spec
    else 0

-- the number names a row, counted from 1
abbrev pub names_row : RowCounts → ℕ → Bool
names_row counts n = nat_lt 0 (n / 4) && nat_le (n / 4) (rows_of counts (n % 4))

-- it names a row of TypeDef or TypeRef
abbrev pub names_type : RowCounts → ℕ → Bool
names_type counts n = names_row counts n && not (n % 4 == 2)

-- the type that a class or value type is, and the one that a modifier names
unfoldable pub type_name_at : RowCounts → List ℕ → Part ℕ
type_name_at counts bytes = passing (names_type counts) bytes (number_at bytes)

unfoldable pub modifier_name_at : RowCounts → List ℕ → Part ℕ
modifier_name_at counts bytes = passing (names_row counts) bytes (number_at bytes)

-- the number of a generic parameter
abbrev pub is_variable : ℕ → Bool
is_variable n = nat_le n 65535

unfoldable pub variable_at : List ℕ → Part ℕ
variable_at bytes = passing is_variable bytes (number_at bytes)

-- a count of arguments, of which there is at least one
abbrev pub is_some : ℕ → Bool
is_some n = nat_lt 0 n

unfoldable pub argument_count_at : List ℕ → Part ℕ
argument_count_at bytes = passing is_some bytes (number_at bytes)

-- a count, and that many parts
abbrev pub counted_at : {X : Type 0} → (List ℕ → Part X) → List ℕ → Part (List X)
counted_at one bytes = number_at bytes >>= λ count. repeated one count.0 count.1

-- the same of arguments
abbrev pub arguments_at : {X : Type 0} → (List ℕ → Part X) → List ℕ → Part (List X)
arguments_at one bytes = argument_count_at bytes >>= λ count. repeated one count.0 count.1

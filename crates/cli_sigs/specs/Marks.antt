-- What may stand before a type, and is skipped.
use Rattle.std.specs.Prelude.{ℕ, zero, suc, Bool, false, ◌||◌, ◌==◌, List, [], ◌∷◌, length, Option, Some, None, Ok, if◌then◌else◌}
use Rattle.cli_sigs.specs.declared.signature.RowCounts.{RowCounts}
use Rattle.cli_sigs.specs.declared.marks.Before.{Before}
use Rattle.cli_sigs.specs.declared.marks.Before.TheVariants as before
use Rattle.cli_sigs.specs.Reading.{Answer, Part, ◌>>=◌}
use Rattle.cli_sigs.specs.Compressed.{modifier_name_at}

-- a custom modifier, required or optional (II.23.2.7)
abbrev pub is_modifier : ℕ → Bool
is_modifier code = code == 0x1F || code == 0x20

-- a local may be pinned (II.23.2.9)
abbrev pub is_pinned : Before → ℕ → Bool
is_pinned before.Type code = false
is_pinned before.Local code = code == 0x45

-- the bytes after one mark, or None where none stands
unfoldable pub mark_at : RowCounts → Before → List ℕ → Answer (Option (List ℕ))
mark_at counts what [] = Ok None
mark_at counts what (code ∷ rest) =
    if is_modifier code then (modifier_name_at counts rest >>= λ name. Ok (Some name.1))
    else if is_pinned what code then Ok (Some rest)
    else Ok None

abbrev pub go_on : List ℕ → (List ℕ → Answer (List ℕ)) → Option (List ℕ) → Answer (List ℕ)
go_on bytes others None = Ok bytes
go_on bytes others (Some after) = others after

-- the bytes after at most that many marks
unfoldable pub marks_at : RowCounts → Before → ℕ → List ℕ → Answer (List ℕ)
marks_at counts what zero bytes = Ok bytes
marks_at counts what (suc n) bytes = mark_at counts what bytes >>= go_on bytes (marks_at counts what n)

-- the bytes after all of them: each mark has a byte at least
abbrev pub past_marks : RowCounts → Before → List ℕ → Answer (List ℕ)
past_marks counts what bytes = marks_at counts what (length bytes) bytes

-- a part behind its marks
abbrev pub marked : {X : Type 0} → RowCounts → Before → (List ℕ → Part X) → List ℕ → Part X
marked counts what one bytes = past_marks counts what bytes >>= one

-- The five kinds of signature (II.23.2), and what their readers answer.
use Rattle.std.specs.Prelude.{◌≡◌, ℕ, ◌-◌, List, [], ◌∷◌, length, Result, Ok, Err, ◌==◌, if◌then◌else◌}
use Rattle.cli_sigs.specs.declared.signature.RowCounts.{RowCounts}
use Rattle.cli_sigs.specs.declared.signature.SigTy.{SigTy}
use Rattle.cli_sigs.specs.declared.signature.SigMethod.{SigMethod}
use Rattle.cli_sigs.specs.declared.fault.SigFault.{SigFault}
use Rattle.cli_sigs.specs.declared.fault.SigFault.TheVariants as fault
use Rattle.cli_sigs.specs.declared.marks.Before.TheVariants as before
use Rattle.cli_sigs.specs.declared.types.Callee.TheVariants as callee
use Rattle.cli_sigs.specs.Reading.{Answer, Part, ◌>>=◌, refused}
use Rattle.cli_sigs.specs.Compressed.{number_at, counted_at, arguments_at}
use Rattle.cli_sigs.specs.Marks.{marked}
use Rattle.cli_sigs.specs.Types.{Reader, type_at, method_at, marked_type_at}

-- how deep constructors may be nested
abbrev pub most_levels : ℕ
most_levels = 64

-- any type that a signature may have
unfoldable pub whole_type_at : RowCounts → Reader SigTy
whole_type_at counts = type_at counts most_levels

-- the code that says which kind of signature this is
unfoldable pub kind_at : ℕ → List ℕ → Answer (List ℕ)
kind_at kind [] = refused []
kind_at kind (code ∷ rest) = if code == kind then Ok rest else refused (code ∷ rest)

-- II.23.2.4
unfoldable pub field_at : RowCounts → Reader SigTy
field_at counts bytes = kind_at 0x06 bytes >>= marked_type_at counts (whole_type_at counts)

-- II.23.2.1 to II.23.2.3
unfoldable pub member_at : RowCounts → Reader SigMethod
member_at counts bytes = method_at counts (whole_type_at counts) callee.Member bytes

-- II.23.2.6
unfoldable pub local_at : RowCounts → Reader SigTy
local_at counts bytes = marked counts before.Local (whole_type_at counts) bytes

unfoldable pub locals_at : RowCounts → Reader (List SigTy)
locals_at counts bytes = kind_at 0x07 bytes >>= counted_at (local_at counts)

-- II.23.2.15
unfoldable pub method_spec_at : RowCounts → Reader (List SigTy)
method_spec_at counts bytes = kind_at 0x0A bytes >>= arguments_at (whole_type_at counts)

-- What a blob holds: the value at its front, or the place of the first byte that can't be read. Bytes after the
-- value are ignored.
abbrev pub placed : {X : Type 0} → List ℕ → Part X → Result X ℕ
placed blob (Ok x) = Ok x.0
placed blob (Err left) = Err (length blob - left)

abbrev pub Refuses : {X : Type 0} → SigFault → Result X ℕ → Type 0
Refuses (fault.Bad place) held = held ≡ Err place
Refuses fault.Memory held = Unit {0}

-- A reader answers what the blob holds, unless memory runs out.
abbrev pub Answers : {X : Type 0} → Result X SigFault → Result X ℕ → Type 0
Answers (Ok x) held = held ≡ Ok x
Answers (Err e) held = Refuses e held

-- A check answers that a value is there, or the fault with its place. It takes no memory.
abbrev pub checked : {X : Type 0} → Result X ℕ → Result (Unit {0}) SigFault
checked (Ok x) = Ok (tt {0})
checked (Err place) = Err (fault.Bad place)

-- the same with how many values there are in place of the values
abbrev pub counted : {X : Type 0} → Result (List X) ℕ → Result ℕ SigFault
counted (Ok xs) = Ok (length xs)
counted (Err place) = Err (fault.Bad place)

-- how many locals a blob tells behind its code, before their types; 0 where it tells no number
abbrev pub told_by : Part ℕ → ℕ
told_by (Ok number) = number.0
told_by (Err left) = 0

unfoldable pub told_locals : List ℕ → ℕ
told_locals [] = 0
told_locals (code ∷ rest) = told_by (number_at rest)

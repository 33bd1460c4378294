-- The rows of the instruction set, by their codes.
use Rattle.std.proofs.Common.{◌≡◌, ℕ, zero, suc, ◌+◌, ◌-◌, ◌<◌, ◌≤◌, Bool, true, false, List, [], ◌∷◌, length, Option, Some, None, ◌⊎◌, inl, inr, refl, sym, ap, ◌∙◌, arith}
use Rattle.std.specs.Prelude.{nat_lt, ◌==◌, ◌&&◌, slice_get}
use Rattle.std.specs.Option.{option_flatten}
use Rattle.std.proofs.lemmas.Bool.{lt-ltb, le-ltb, eqb-true, cases_lt}
use Rattle.cil_code.specs.declared.instruction_set.Op.{Op}
use Rattle.cil_code.specs.declared.instruction_set.TheConstants.{ONE_BYTE, TWO_BYTES}
use Rattle.cil_code.specs.InstructionSet.{op_of}
use Rattle.cil_code.proofs.Choices.{chosen, passed}

and_left : (a b : Bool) → (a && b) ≡ true → a ≡ true
and_left true b e = refl
and_left false b e = absurd cc

and_right : (a b : Bool) → (a && b) ≡ true → b ≡ true
and_right true b e = e
and_right false b e = absurd cc

pub row_of_one : (code : ℕ) → code < 0x100 → op_of code ≡ option_flatten (slice_get ONE_BYTE code)
unfolding op_of
row_of_one code below = chosen (nat_lt code 0x100) _ _ (lt-ltb code 0x100 below)

pub row_between : (code : ℕ) → 0x100 ≤ code → code < 0xFE00 → op_of code ≡ None
unfolding op_of
row_between code above below =
    passed (nat_lt code 0x100) _ _ (le-ltb code 0x100 above)
    ∙ chosen (nat_lt code 0xFE00) _ _ (lt-ltb code 0xFE00 below)

pub row_of_two : (code : ℕ) → 0xFE00 ≤ code → op_of code ≡ option_flatten (slice_get TWO_BYTES (code - 0xFE00))
unfolding op_of
row_of_two code above =
    passed (nat_lt code 0x100) _ _ (le-ltb code 0x100 (omega arith))
    ∙ passed (nat_lt code 0xFE00) _ _ (le-ltb code 0xFE00 above)

-- ---- each row has the code of its place

-- the rows from a place on have the codes from base on
abbrev codes_stand : ℕ → List (Option Op) → Bool
codes_stand code [] = true
codes_stand code (None ∷ rows) = codes_stand (suc code) rows
codes_stand code (Some op ∷ rows) = op.code == code && codes_stand (suc code) rows

code_stands : (rows : List (Option Op)) (base index : ℕ) (op : Op) → codes_stand base rows ≡ true
    → option_flatten (slice_get rows index) ≡ Some op → op.code ≡ base + index
code_stands [] base index op stand e = absurd cc
code_stands (None ∷ rows) base zero op stand e = absurd cc
code_stands (Some first ∷ rows) base zero op stand e =
    let same : first ≡ op = cc in
    let test = and_left (first.code == base) (codes_stand (suc base) rows) stand in
    ap (λ (o : Op). o.code) (sym same) ∙ eqb-true first.code base test ∙ omega arith
code_stands (None ∷ rows) base (suc index) op stand e =
    code_stands rows (suc base) index op stand e ∙ omega arith
code_stands (Some first ∷ rows) base (suc index) op stand e =
    code_stands rows (suc base) index op (and_right (first.code == base) (codes_stand (suc base) rows) stand) e ∙ omega arith

one_stands : codes_stand 0 ONE_BYTE ≡ true
one_stands = refl

two_stand : codes_stand 0xFE00 TWO_BYTES ≡ true
two_stand = refl

-- a row's code is the one that it is found by
pub code_of_row : (code : ℕ) (op : Op) → op_of code ≡ Some op → op.code ≡ code
code_of_row code op e =
    elim (cases_lt code 0x100) [
      | inl below ↦ code_stands ONE_BYTE 0 code op one_stands (sym (row_of_one code below) ∙ e) ∙ omega arith
      | inr above ↦
          elim (cases_lt code 0xFE00) [
            | inl between ↦ let no : None ≡ Some op = sym (row_between code above between) ∙ e in absurd cc
            | inr two ↦ code_stands TWO_BYTES 0xFE00 (code - 0xFE00) op two_stand (sym (row_of_two code two) ∙ e) ∙ omega arith
          ]
    ]

-- a code that has a row is a byte below 0xFE, or 0xFE00 plus a byte
abbrev pub IsCode : ℕ → Type 0
IsCode code = (code < 0xFE) ⊎ ((0xFE00 ≤ code) × (code < 0xFF00))

slice_within : (rows : List (Option Op)) (index : ℕ) (op : Op) → option_flatten (slice_get rows index) ≡ Some op → index < length rows
slice_within [] index op e = absurd cc
slice_within (row ∷ rows) zero op e = omega arith
slice_within (row ∷ rows) (suc index) op e = let h = slice_within rows index op e in omega arith

pub row_has_code : (code : ℕ) (op : Op) → op_of code ≡ Some op → IsCode code
row_has_code code op e =
    elim (cases_lt code 0x100) [
      | inl below ↦
          let within : code < 0xE1 = slice_within ONE_BYTE code op (sym (row_of_one code below) ∙ e) in
          inl (omega arith)
      | inr above ↦
          elim (cases_lt code 0xFE00) [
            | inl between ↦ let no : None ≡ Some op = sym (row_between code above between) ∙ e in absurd cc
            | inr two ↦
                let within : code - 0xFE00 < 0x1F = slice_within TWO_BYTES (code - 0xFE00) op (sym (row_of_two code two) ∙ e) in
                inr (two, omega arith)
          ]
    ]

-- What is noted of the rows of NestedClass and GenericParam, from one row to the next.
use Rattle.std.proofs.Common.{◌≡◌, ℕ, zero, suc, ◌+◌, ◌-◌, ◌*◌, ◌/◌, ◌%◌, ◌<◌, ◌≤◌, max, inl, inr, Bool, true, false, ◌||◌, ◌&&◌, not, List, [], ◌∷◌, length, get_or, set, slice_set, replicate, None, Ok, nat_le, nat_lt, nat_eq, refl, sym, ap, ◌∙◌, subst, arith}
use Rattle.std.proofs.lemmas.Bool.{and_parts, cases_eq, eq-eqb, ne_eqb, leb-true}
use Rattle.std.proofs.lemmas.List.{get_or-set_same, get_or-set_other, length-set, length-replicate, get_or-replicate}
use Rattle.clr_base.specs.Checks.{check, first_fault}
use Rattle.clr_base.specs.declared.image_fault.FaultKind.TheVariants.{BadIndex}
use Rattle.cli_tables.specs.declared.schema.CodedIndex.TheVariants.{TypeOrMethodDef}
use Rattle.cli_tables.specs.Layout.{row_count, one_if}
use Rattle.cli_tables.specs.Metadata.{Metadata}
use Rattle.cli_tables.specs.Schema.{columns, tables_of, tag_bits}
use Rattle.image_rows.specs.Rows.{token, is_row, is_row_of, is_coded, may_be_null, cell_checks, column_checks, rule_checks, nested, enclosing, nested_in_first, nested_rule, number, owner, owned_in_first, number_rule}
use Rattle.image_rows.specs.RowsBefore.{AreNested, AreOwned}
use Rattle.image_rows.proofs.Passing.{one_passes, cell_passes}

-- the columns of GenericParam are there
pub generic_column : (column : ℕ) → column < 4 → column < length (columns 0x2a)
unfolding columns
generic_column column within = omega arith

-- where the columns of a row of NestedClass pass, the nested type is there
pub nested_within : (m : Metadata) (row type : ℕ) → type ≡ nested m row → first_fault (column_checks m 0x29 row) ≡ Ok (tt {0}) → type ≤ row_count m.tables 0x02
unfolding columns cell_checks is_row
nested_within m row type is e =
    let passes = one_passes _ _ _ (cell_passes m 0x29 row 0 (omega arith) e) in
    let last = leb-true _ _ (and_parts (nat_le 1 (nested m row)) (nat_le (nested m row) (row_count m.tables 0x02)) passes).1 in
    omega (arith, last, is)

or_true : (b : Bool) → (b || true) ≡ true
or_true true = refl
or_true false = refl

or_false : (b : Bool) → (b || false) ≡ b
or_false true = refl
or_false false = refl

one_nested : (m : Metadata) (n type : ℕ) (b : Bool) → nat_eq (nested m (suc n)) type ≡ b → nested_in_first m (suc n) type ≡ (nested_in_first m n type || b)
unfolding nested_in_first
one_nested m n type b e = ap (λ x. nested_in_first m n type || x) e

pub none_nested : (m : Metadata) (seen : List Bool) → seen ≡ replicate (row_count m.tables 0x02 + 1) false → AreNested m 0 seen
unfolding nested_in_first
none_nested m seen e = record {
  count = ap length e ∙ length-replicate (row_count m.tables 0x02 + 1) false;
  each = λ type d within. ap (λ (xs : List Bool). get_or xs type d) e ∙ get_or-replicate (row_count m.tables 0x02 + 1) type false d within;
}

-- one more row of NestedClass
pub more_nested : (m : Metadata) (row type : ℕ) (old new : List Bool) → 1 ≤ row → type ≡ nested m row → type ≤ row_count m.tables 0x02
    → AreNested m (row - 1) old → new ≡ slice_set old type true → AreNested m row new
more_nested m row type old new first is within before e =
    let back : suc (row - 1) ≡ row = omega arith in
    let is' : nested m (suc (row - 1)) ≡ type = ap (nested m) back ∙ sym is in
    subst (λ n. AreNested m n new) back record {
      count = ap length e ∙ length-set old type true ∙ before.count;
      each = λ other d inside. ap (λ (xs : List Bool). get_or xs other d) e ∙ elim (cases_eq other type) [
        | inl same ↦
            ap (λ i. get_or (set old type true) i d) same ∙ get_or-set_same old type true d (omega (arith, before.count))
            ∙ sym (or_true (nested_in_first m (row - 1) other)) ∙ sym (one_nested m (row - 1) other true (eq-eqb _ _ (is' ∙ sym same)))
        | inr differs ↦
            get_or-set_other old type other true d differs ∙ before.each other d inside
            ∙ sym (or_false (nested_in_first m (row - 1) other)) ∙ sym (one_nested m (row - 1) other false (ne_eqb _ _ (λ same. differs (sym same ∙ is'))))
      ];
    }

-- where the columns of a row of GenericParam pass, its owner is there
of_two : (m : Metadata) (null : Bool) (tag row : ℕ) → tag < 2 → is_row_of m null (get_or (tables_of TypeOrMethodDef) tag None) row ≡ true
    → row ≤ max (row_count m.tables 0x02) (row_count m.tables 0x06)
unfolding tables_of
of_two m null zero row within e = let last = leb-true _ _ (and_parts (null || nat_le 1 row) (nat_le row (row_count m.tables 0x02)) e).1 in omega (arith, last)
of_two m null (suc zero) row within e = let last = leb-true _ _ (and_parts (null || nat_le 1 row) (nat_le row (row_count m.tables 0x06)) e).1 in omega (arith, last)
of_two m null (suc (suc tag)) row within e = absurd (omega arith)

pub owner_within : (m : Metadata) (row of : ℕ) → of ≡ owner m row → first_fault (column_checks m 0x2a row) ≡ Ok (tt {0})
    → of < 2 * (max (row_count m.tables 0x02) (row_count m.tables 0x06) + 1)
unfolding columns cell_checks is_coded tag_bits
owner_within m row of is e =
    let passes = one_passes _ _ _ (cell_passes m 0x2a row 2 (omega arith) e) in
    let most = of_two m (may_be_null 0x2a 2) (owner m row % 2) (owner m row / 2) (omega arith) passes in
    omega (arith, most, is)

one_owned : (m : Metadata) (n of : ℕ) (b : Bool) → nat_eq (owner m (suc n)) of ≡ b → owned_in_first m (suc n) of ≡ owned_in_first m n of + one_if b
unfolding owned_in_first
one_owned m n of b e = ap (λ x. owned_in_first m n of + one_if x) e

pub none_owned : (m : Metadata) (owned : List ℕ) → owned ≡ replicate (2 * (max (row_count m.tables 0x02) (row_count m.tables 0x06) + 1)) 0 → AreOwned m 0 owned
unfolding owned_in_first
none_owned m owned e =
    let n = 2 * (max (row_count m.tables 0x02) (row_count m.tables 0x06) + 1) in
    let count : length owned ≡ n = ap length e ∙ length-replicate n 0 in
    record {
      count = count;
      each = λ of d within. ap (λ (xs : List ℕ). get_or xs of d) e ∙ get_or-replicate n of 0 d (omega (arith, within, count));
    }

-- one more row of GenericParam
pub more_owned : (m : Metadata) (row of count : ℕ) (old new : List ℕ) → 1 ≤ row → of ≡ owner m row → of < length old → count ≡ owned_in_first m (row - 1) of
    → AreOwned m (row - 1) old → new ≡ slice_set old of (count + 1) → AreOwned m row new
more_owned m row of count old new first is within counted before e =
    let back : suc (row - 1) ≡ row = omega arith in
    let is' : owner m (suc (row - 1)) ≡ of = ap (owner m) back ∙ sym is in
    let long : length new ≡ length old = ap length e ∙ length-set old of (count + 1) in
    subst (λ n. AreOwned m n new) back record {
      count = long ∙ before.count;
      each = λ other d inside. ap (λ (xs : List ℕ). get_or xs other d) e ∙ elim (cases_eq other of) [
        | inl same ↦
            ap (λ i. get_or (set old of (count + 1)) i d) same ∙ get_or-set_same old of (count + 1) d within
            ∙ ap (λ n. n + 1) (counted ∙ ap (owned_in_first m (row - 1)) (sym same)) ∙ sym (one_owned m (row - 1) other true (eq-eqb _ _ (is' ∙ sym same)))
        | inr differs ↦
            let none : owned_in_first m (row - 1) other ≡ owned_in_first m (row - 1) other + 0 = omega arith in
            get_or-set_other old of other (count + 1) d differs ∙ before.each other d (omega (arith, inside, long))
            ∙ none ∙ sym (one_owned m (row - 1) other false (ne_eqb _ _ (λ same. differs (sym same ∙ is'))))
      ];
    }

one_at_most : (b : Bool) → one_if b ≤ 1
one_at_most true = omega arith
one_at_most false = omega arith

-- no more of the first n rows than n have an owner
pub owned_few : (m : Metadata) (n of : ℕ) → owned_in_first m n of ≤ n
unfolding owned_in_first
owned_few m zero of = omega arith
owned_few m (suc n) of = omega (arith, owned_few m n of, one_at_most (nat_eq (owner m (suc n)) of))

-- the rule of a row of NestedClass, by what is noted
pub as_nested_rule : (m : Metadata) (row outer type : ℕ) (seen : List Bool) → outer ≡ enclosing m row → type ≡ nested m row → type ≤ row_count m.tables 0x02
    → AreNested m (row - 1) seen → (nat_lt outer type && not (get_or seen type false)) ≡ nested_rule m row
unfolding nested_rule
as_nested_rule m row outer type seen outer_is is within before =
    ap (λ b. nat_lt outer type && not b) (before.each type false (omega (arith, within)) ∙ ap (nested_in_first m (row - 1)) is)
    ∙ ap (λ n. nat_lt outer n && not (nested_in_first m (row - 1) (nested m row))) is
    ∙ ap (λ n. nat_lt n (nested m row) && not (nested_in_first m (row - 1) (nested m row))) outer_is

pub nested_fault : (m : Metadata) (row : ℕ) (b : Bool) → b ≡ nested_rule m row → first_fault (check b BadIndex (token 0x29 row) ∷ []) ≡ first_fault (rule_checks m 0x29 row)
unfolding rule_checks
nested_fault m row b e = ap (λ x. first_fault (check x BadIndex (token 0x29 row) ∷ [])) e

-- the rule of a row of GenericParam
pub number_fault : (m : Metadata) (row n count of : ℕ) → n ≡ number m row → of ≡ owner m row → count ≡ owned_in_first m (row - 1) of
    → first_fault (check (nat_eq n count) BadIndex (token 0x2a row) ∷ []) ≡ first_fault (rule_checks m 0x2a row)
unfolding rule_checks number_rule
number_fault m row n count of n_is of_is counted =
    ap (λ x. first_fault (check (nat_eq x count) BadIndex (token 0x2a row) ∷ [])) n_is
    ∙ ap (λ x. first_fault (check (nat_eq (number m row) x) BadIndex (token 0x2a row) ∷ [])) (counted ∙ ap (owned_in_first m (row - 1)) of_is)

-- how often an owner was noted
pub noted : (m : Metadata) (row of : ℕ) (xs owned : List ℕ) → xs ≡ owned → of < 2 * (max (row_count m.tables 0x02) (row_count m.tables 0x06) + 1) → AreOwned m (row - 1) owned
    → get_or xs of 0 ≡ owned_in_first m (row - 1) of
noted m row of xs owned same within before = ap (λ (l : List ℕ). get_or l of 0) same ∙ before.each of 0 (omega (arith, within, before.count))

pub noted_few : (m : Metadata) (row of : ℕ) (xs owned : List ℕ) → xs ≡ owned → of < 2 * (max (row_count m.tables 0x02) (row_count m.tables 0x06) + 1) → AreOwned m (row - 1) owned
    → get_or xs of 0 ≤ row - 1
noted_few m row of xs owned same within before = omega (arith, noted m row of xs owned same within before, owned_few m (row - 1) of)

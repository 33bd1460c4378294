-- A full name by the definition around it. How many of these are looked at doesn't matter, as long as none is left out.
use Rattle.std.proofs.Common.{◌≡◌, ◌≢◌, ◌⊎◌, inl, inr, ℕ, zero, suc, ◌-◌, ◌<◌, ◌≤◌, List, ◌++◌, length, map, get_or, false, cond, eqb, Result, Ok, Err, IfOk, refl, sym, ap, ap₂, ◌∙◌, codes, arith}
use Rattle.std.specs.List.{range_with_len}
use Rattle.std.proofs.lemmas.Bool.Decides.{eqb_tells}
use Rattle.std.proofs.lemmas.List.FromFn.{length-map-range_with_len, get_or-map-range_with_len}
use Rattle.cli_tables.specs.Metadata.{Metadata}
use Rattle.image_rows.specs.Nesting.{if_before, enclosing_row}
use Rattle.image_rows.specs.TypeNames.{def_name, def_namespace, qualified, full_name_within, full_name}

none_or_before : (row outer : ℕ) → (if_before row outer ≡ 0) ⊎ (if_before row outer < row)
none_or_before row outer = grind arith

-- the definition around another one stands before it
before : (m : Metadata) (row : ℕ) → (enclosing_row m row ≡ 0) ⊎ (enclosing_row m row < row)
unfolding enclosing_row
before m row = none_or_before row _

-- one step outwards
step : (n : ℕ) (m : Metadata) (row : ℕ)
    → full_name_within (suc n) m row ≡ cond (eqb (enclosing_row m row) 0) (qualified (def_namespace m row) (def_name m row)) (full_name_within n m (enclosing_row m row) ++ codes "+" ++ def_name m row)
unfolding full_name_within
step n m row = refl

outermost : (n : ℕ) (m : Metadata) (row : ℕ) → enclosing_row m row ≡ 0 → full_name_within n m row ≡ qualified (def_namespace m row) (def_name m row)
unfolding full_name_within
outermost zero m row none = refl
outermost (suc n) m row none = rw none refl

first : (m : Metadata) (row : ℕ) → row ≤ 0 → enclosing_row m row ≡ 0
first m row none = elim (before m row) [ inl alone ↦ alone | inr less ↦ absurd (omega arith) ]

enough : (n k : ℕ) (m : Metadata) (row : ℕ) → row ≤ n → row ≤ k → full_name_within n m row ≡ full_name_within k m row
enough zero k m row low high = outermost zero m row (first m row low) ∙ sym (outermost k m row (first m row low))
enough (suc n) zero m row low high = outermost (suc n) m row (first m row high) ∙ sym (outermost zero m row (first m row high))
enough (suc n) (suc k) m row low high =
    elim (before m row) [
      | inl none ↦ outermost (suc n) m row none ∙ sym (outermost (suc k) m row none)
      | inr less ↦
          step n m row
          ∙ ap (λ (name : List ℕ). cond (eqb (enclosing_row m row) 0) (qualified (def_namespace m row) (def_name m row)) (name ++ codes "+" ++ def_name m row))
          (enough n k m (enclosing_row m row) (omega arith) (omega arith))
          ∙ sym (step k m row)
    ]

not_zero : (x : ℕ) → x ≢ 0 → eqb x 0 ≡ false
not_zero x some = elim (eqb_tells x 0) [ inl same ↦ absurd (some same.1) | inr other ↦ other.0 ]

full_name_alone : (m : Metadata) (row : ℕ) → enclosing_row m row ≡ 0 → full_name m row ≡ qualified (def_namespace m row) (def_name m row)
full_name_alone m row none = outermost row m row none

pub full_name_nested : (m : Metadata) (row outer : ℕ) → outer ≡ enclosing_row m row → outer ≢ 0
    → full_name m row ≡ full_name m outer ++ codes "+" ++ def_name m row
full_name_nested m zero outer is some = absurd (some (is ∙ first m zero (omega arith)))
full_name_nested m (suc row) outer is some =
    elim (before m (suc row)) [
      | inl none ↦ absurd (some (is ∙ none))
      | inr less ↦
          let low : outer ≤ row = omega arith in
          let test : eqb (enclosing_row m (suc row)) 0 ≡ false = ap (λ (x : ℕ). eqb x 0) (sym is) ∙ not_zero outer some in
          step row m (suc row)
          ∙ ap (λ b. cond b (qualified (def_namespace m (suc row)) (def_name m (suc row))) (full_name_within row m (enclosing_row m (suc row)) ++ codes "+" ++ def_name m (suc row))) test
          ∙ ap (λ (x : ℕ). full_name_within row m x ++ codes "+" ++ def_name m (suc row)) (sym is)
          ∙ ap (λ (name : List ℕ). name ++ codes "+" ++ def_name m (suc row)) (enough row outer m outer low (omega arith))
    ]

pub outer_before : (m : Metadata) (row outer : ℕ) → outer ≡ enclosing_row m row → outer ≢ 0 → outer < row
outer_before m row outer is some = elim (before m row) [ inl none ↦ absurd (some (is ∙ none)) | inr less ↦ omega arith ]

-- the name of a definition in no other one, as it was made
pub made_alone : {E : Type 0} (m : Metadata) (row around : ℕ) (namespace name : List ℕ) (r : Result (List ℕ) E) → around ≡ enclosing_row m row → around ≡ 0
    → namespace ≡ def_namespace m row → name ≡ def_name m row
    → IfOk r (λ text. text ≡ qualified namespace name) → IfOk r (λ text. text ≡ full_name m row)
made_alone m row around namespace name (Ok text) is none namespace_is name_is e =
    e ∙ ap₂ qualified namespace_is name_is ∙ sym (full_name_alone m row (sym is ∙ none))
made_alone m row around namespace name (Err x) is none namespace_is name_is e = e

-- and of one in another
pub made_nested : (m : Metadata) (row outer : ℕ) (full name made : List ℕ) → outer ≡ enclosing_row m row → outer ≢ 0
    → full ≡ full_name m outer → name ≡ def_name m row → made ≡ full ++ codes "+" ++ name → made ≡ full_name m row
made_nested m row outer full name made is some full_is name_is e =
    e ∙ ap (λ (l : List ℕ). l ++ codes "+" ++ name) full_is ∙ ap (λ (l : List ℕ). full_name m outer ++ codes "+" ++ l) name_is
    ∙ sym (full_name_nested m row outer is some)

-- where the name around one stands
pub outer_listed : (m : Metadata) (row outer : ℕ) (d : List ℕ) (names : List (List ℕ)) → outer ≡ enclosing_row m row → outer ≢ 0
    → names ≡ map (full_name m) (range_with_len 1 (row - 1)) → get_or names (outer - 1) d ≡ full_name m outer
outer_listed m row outer d names is some listed =
    let less = outer_before m row outer is some in
    ap (λ (xs : List (List ℕ)). get_or xs (outer - 1) d) listed
    ∙ get_or-map-range_with_len (full_name m) 1 (row - 1) (outer - 1) outer d (omega arith) (omega arith)

pub outer_inside : (m : Metadata) (row outer : ℕ) (names : List (List ℕ)) → outer ≡ enclosing_row m row → outer ≢ 0
    → names ≡ map (full_name m) (range_with_len 1 (row - 1)) → outer - 1 < length names
outer_inside m row outer names is some listed =
    let less = outer_before m row outer is some in
    let count : length names ≡ row - 1 = ap length listed ∙ length-map-range_with_len (full_name m) 1 (row - 1) in
    omega arith

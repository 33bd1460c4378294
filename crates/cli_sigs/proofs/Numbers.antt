-- Numbers are read as they are spelled.
use Rattle.std.proofs.Common.{◌≡◌, ℕ, ◌+◌, ◌-◌, ◌*◌, ◌<◌, ◌≤◌, Bool, true, cond, List, [], ◌∷◌, ◌++◌, length, Ok, refl, sym, ap, subst, ◌∙◌, arith, inl, inr}
use Rattle.std.proofs.lemmas.Bool.{cases_lt, le-ltb, lt-ltb}
use Rattle.std.proofs.lemmas.Bool.{leb-true, le-leb}
use Rattle.cli_sigs.specs.declared.signature.RowCounts.{RowCounts}
use Rattle.cli_sigs.specs.Reading.{refused, passing}
use Rattle.cli_sigs.specs.Compressed.{number_at, two_bytes_at, four_bytes_at, names_type, type_name_at, is_variable, variable_at}
use Rattle.cli_sigs.specs.Grammar.{SpellsNumber, one_byte, two_bytes, four_bytes, SpellsTypeName, type_name, SpellsVariable, variable}
use Rattle.cli_sigs.proofs.ReaderLaws.{Begins, Reads, bind_ok, test_ok, ok_is}

-- ---- compressed numbers

at_one : (a : ℕ) (rest : List ℕ) → a < 0x80 → number_at (a ∷ rest) ≡ Ok (a, rest)
at_one a rest h = rw (lt-ltb a 0x80 h) refl

at_two : (a : ℕ) (rest : List ℕ) → 0x80 ≤ a → a < 0xC0 → number_at (a ∷ rest) ≡ two_bytes_at a rest
at_two a rest h k = rw (le-ltb a 0x80 h, lt-ltb a 0xC0 k) refl

at_four : (a : ℕ) (rest : List ℕ) → 0xC0 ≤ a → a < 0xE0 → number_at (a ∷ rest) ≡ four_bytes_at a rest
at_four a rest h k = let low : 0x80 ≤ a = omega arith in rw (le-ltb a 0x80 low, le-ltb a 0xC0 h, lt-ltb a 0xE0 k) refl

at_none : (a : ℕ) (rest : List ℕ) → 0xE0 ≤ a → number_at (a ∷ rest) ≡ refused (a ∷ rest)
at_none a rest h = let low : 0x80 ≤ a = omega arith in let mid : 0xC0 ≤ a = omega arith in rw (le-ltb a 0x80 low, le-ltb a 0xC0 mid, le-ltb a 0xE0 h) refl

number_again : (text : List ℕ) (n : ℕ) (rest : List ℕ) → SpellsNumber text n → number_at (text ++ rest) ≡ Ok (n, rest)
number_again text n rest (one_byte a lt) = at_one a rest lt
number_again text n rest (two_bytes a b lt) =
    let back : (0x80 + a) - 0x80 ≡ a = omega arith in
    at_two (0x80 + a) (b ∷ rest) (omega arith) (omega arith) ∙ rw back refl
number_again text n rest (four_bytes a b c d lt) =
    let back : (0xC0 + a) - 0xC0 ≡ a = omega arith in
    at_four (0xC0 + a) (b ∷ c ∷ d ∷ rest) (omega arith) (omega arith) ∙ rw back refl

abbrev Found : List ℕ → ℕ × List ℕ → Type 0
Found bytes p = Begins SpellsNumber bytes p.0 p.1

found_two : (a : ℕ) (more : List ℕ) (p : ℕ × List ℕ) → 0x80 ≤ a → a < 0xC0 → two_bytes_at a more ≡ Ok p → Found (a ∷ more) p
found_two a [] p h k e = absurd cc
found_two a (b ∷ rest) p h k e =
    let whole : a ≡ 0x80 + (a - 0x80) = omega arith in
    subst (Found (a ∷ b ∷ rest)) (ok_is ((a - 0x80) * 0x100 + b, rest) p e)
    (record { text = (0x80 + (a - 0x80)) ∷ b ∷ []; spelled = two_bytes (a - 0x80) b (omega arith); front = ap (λ (k : ℕ). k ∷ b ∷ rest) whole })

found_four : (a : ℕ) (more : List ℕ) (p : ℕ × List ℕ) → 0xC0 ≤ a → a < 0xE0 → four_bytes_at a more ≡ Ok p → Found (a ∷ more) p
found_four a [] p h k e = absurd cc
found_four a (b ∷ []) p h k e = absurd cc
found_four a (b ∷ c ∷ []) p h k e = absurd cc
found_four a (b ∷ c ∷ d ∷ rest) p h k e =
    let whole : a ≡ 0xC0 + (a - 0xC0) = omega arith in
    subst (Found (a ∷ b ∷ c ∷ d ∷ rest)) (ok_is ((((a - 0xC0) * 0x100 + b) * 0x100 + c) * 0x100 + d, rest) p e)
    (record { text = (0xC0 + (a - 0xC0)) ∷ b ∷ c ∷ d ∷ []; spelled = four_bytes (a - 0xC0) b c d (omega arith); front = ap (λ (k : ℕ). k ∷ b ∷ c ∷ d ∷ rest) whole })

found_at : (bytes : List ℕ) (p : ℕ × List ℕ) → number_at bytes ≡ Ok p → Found bytes p
found_at [] p e = absurd cc
found_at (a ∷ more) p e =
    elim (cases_lt a 0x80) [
      | inl h ↦ subst (Found (a ∷ more)) (ok_is (a, more) p (sym (at_one a more h) ∙ e)) (record { text = a ∷ []; spelled = one_byte a h; front = refl })
      | inr h ↦ elim (cases_lt a 0xC0) [
        | inl k ↦ found_two a more p h k (sym (at_two a more h k) ∙ e)
        | inr k ↦ elim (cases_lt a 0xE0) [
          | inl l ↦ found_four a more p k l (sym (at_four a more k l) ∙ e)
          | inr l ↦ absurd (let no : refused {X = ℕ × List ℕ} (a ∷ more) ≡ Ok p = sym (at_none a more l) ∙ e in cc)
        ]
      ]
    ]

pub reads_number : Reads number_at SpellsNumber
reads_number = record { found = λ bytes n rest e. found_at bytes (n, rest) e; again = number_again }

-- ---- numbers that pass a test

module _ (test : ℕ → Bool) where
  pub passing_again : (text : List ℕ) (n : ℕ) (rest : List ℕ) → SpellsNumber text n → test n ≡ true → passing test (text ++ rest) (number_at (text ++ rest)) ≡ Ok (n, rest)
  passing_again text n rest s h = rw (number_again text n rest s, h) refl

  pub passing_found : (bytes : List ℕ) (n : ℕ) (rest : List ℕ) → passing test bytes (number_at bytes) ≡ Ok (n, rest) → Begins SpellsNumber bytes n rest × (test n ≡ true)
  passing_found bytes n rest e =
      let b = bind_ok (number_at bytes) (λ x. cond (test x.0) (Ok x) (refused bytes)) (n, rest) e in
      let t = test_ok (test b.0.0) (length bytes) b.0 (n, rest) b.2 in
      subst (λ (p : ℕ × List ℕ). Found bytes p × (test p.0 ≡ true)) t.1 (found_at bytes b.0 b.1, t.0)

pub reads_type_name : (counts : RowCounts) → Reads (type_name_at counts) (SpellsTypeName counts)
unfolding type_name_at
reads_type_name counts = record { found = found; again = again }
  where
    found : (bytes : List ℕ) (n : ℕ) (rest : List ℕ) → passing (names_type counts) bytes (number_at bytes) ≡ Ok (n, rest) → Begins (SpellsTypeName counts) bytes n rest
    found bytes n rest e =
        let p = passing_found (names_type counts) bytes n rest e in
        record { text = p.0.text; spelled = type_name p.0.text n p.0.spelled p.1; front = p.0.front }

    again : (text : List ℕ) (n : ℕ) (rest : List ℕ) → SpellsTypeName counts text n → passing (names_type counts) (text ++ rest) (number_at (text ++ rest)) ≡ Ok (n, rest)
    again text n rest (type_name t m s h) = passing_again (names_type counts) text n rest s h

pub reads_variable : Reads variable_at SpellsVariable
unfolding variable_at
reads_variable = record { found = found; again = again }
  where
    found : (bytes : List ℕ) (n : ℕ) (rest : List ℕ) → passing is_variable bytes (number_at bytes) ≡ Ok (n, rest) → Begins SpellsVariable bytes n rest
    found bytes n rest e =
        let p = passing_found is_variable bytes n rest e in
        record { text = p.0.text; spelled = variable p.0.text n p.0.spelled (leb-true n 65535 p.1); front = p.0.front }

    again : (text : List ℕ) (n : ℕ) (rest : List ℕ) → SpellsVariable text n → passing is_variable (text ++ rest) (number_at (text ++ rest)) ≡ Ok (n, rest)
    again text n rest (variable t m s h) = passing_again is_variable text n rest s (le-leb n 65535 h)

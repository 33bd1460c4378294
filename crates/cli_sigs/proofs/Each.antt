-- Parts one behind the other are read as they are spelled.
use Rattle.std.proofs.Common.{◌≡◌, ℕ, zero, suc, ◌<◌, List, [], ◌∷◌, ◌++◌, length, Ok, refl, sym, ap, subst, append_assoc}
use Rattle.std.proofs.lemmas.Bool.{lt-ltb, ltb-true}
use Rattle.cli_sigs.specs.Reading.{Part, ◌>>=◌, repeated}
use Rattle.cli_sigs.specs.Compressed.{number_at, is_some, argument_count_at, counted_at, arguments_at}
use Rattle.cli_sigs.specs.Grammar.{SpellsNumber, SpellsEach, none, more, SpellsCounted, counted}
use Rattle.cli_sigs.proofs.ReaderLaws.{Begins, Reads, bind_ok, ok_is, joined}
use Rattle.cli_sigs.proofs.Numbers.{reads_number, passing_again, passing_found}

module _ {X : Type 0} (one : List ℕ → Part X) (Spells : List ℕ → X → Type 0) (reads : Reads one Spells) where
  pub each_again : (text : List ℕ) (xs : List X) (rest : List ℕ) → SpellsEach Spells text xs → repeated one (length xs) (text ++ rest) ≡ Ok (xs, rest)
  unfolding repeated
  each_again text xs rest none = refl
  each_again text xs rest (more t others x ys s h) =
      rw (append_assoc t others rest, reads.again t x (others ++ rest) s, each_again others ys rest h) refl

  pub each_found : (n : ℕ) (bytes : List ℕ) (p : List X × List ℕ) → repeated one n bytes ≡ Ok p → Begins (SpellsEach Spells) bytes p.0 p.1 × (length p.0 ≡ n)
  unfolding repeated
  each_found zero bytes p e =
      subst (λ (q : List X × List ℕ). Begins (SpellsEach Spells) bytes q.0 q.1 × (length q.0 ≡ 0)) (ok_is ([], bytes) p e) (record { text = []; spelled = none; front = refl }, refl)
  each_found (suc n) bytes p e =
      let a = bind_ok (one bytes) (λ first. repeated one n first.1 >>= λ others. Ok (first.0 ∷ others.0, others.1)) p e in
      let b = bind_ok (repeated one n a.0.1) (λ others. Ok (a.0.0 ∷ others.0, others.1)) p a.2 in
      let first = reads.found bytes a.0.0 a.0.1 a.1 in
      let others = each_found n a.0.1 b.0 b.1 in
      let front : bytes ≡ (first.text ++ others.0.text) ++ b.0.1 = joined bytes first.text a.0.1 others.0.text b.0.1 first.front others.0.front in
      subst (λ (q : List X × List ℕ). Begins (SpellsEach Spells) bytes q.0 q.1 × (length q.0 ≡ suc n)) (ok_is (a.0.0 ∷ b.0.0, b.0.1) p b.2)
      (record { text = first.text ++ others.0.text; spelled = more first.text others.0.text a.0.0 b.0.0 first.spelled others.0.spelled; front = front }, ap suc others.1)

  counted_again : (text : List ℕ) (xs : List X) (rest : List ℕ) → SpellsCounted Spells text xs → counted_at one (text ++ rest) ≡ Ok (xs, rest)
  counted_again text xs rest (counted count texts ys n h) =
      rw (append_assoc count texts rest, reads_number.again count (length ys) (texts ++ rest) n) (each_again texts ys rest h)

  -- the parts behind a count that was read
  behind_count : (bytes : List ℕ) (n : ℕ) (after : List ℕ) (p : List X × List ℕ) → Begins SpellsNumber bytes n after → repeated one n after ≡ Ok p → Begins (SpellsCounted Spells) bytes p.0 p.1 × (length p.0 ≡ n)
  behind_count bytes n after p count e =
      let each = each_found n after p e in
      let number : SpellsNumber count.text (length p.0) = subst (λ (k : ℕ). SpellsNumber count.text k) (sym each.1) count.spelled in
      let front : bytes ≡ (count.text ++ each.0.text) ++ p.1 = joined bytes count.text after each.0.text p.1 count.front each.0.front in
      (record { text = count.text ++ each.0.text; spelled = counted count.text each.0.text p.0 number each.0.spelled; front = front }, each.1)

  pub reads_counted : Reads (counted_at one) (SpellsCounted Spells)
  reads_counted = record {
    found = λ bytes xs rest e.
        let a = bind_ok (number_at bytes) (λ count. repeated one count.0 count.1) (xs, rest) e in
        (behind_count bytes a.0.0 a.0.1 (xs, rest) (reads_number.found bytes a.0.0 a.0.1 a.1) a.2).0;
    again = counted_again;
  }

  pub arguments_again : (text : List ℕ) (xs : List X) (rest : List ℕ) → 0 < length xs → SpellsCounted Spells text xs → arguments_at one (text ++ rest) ≡ Ok (xs, rest)
  unfolding argument_count_at
  arguments_again text xs rest some (counted count texts ys n h) =
      rw (append_assoc count texts rest, passing_again is_some count (length ys) (texts ++ rest) n (lt-ltb 0 (length ys) some)) (each_again texts ys rest h)

  pub arguments_found : (bytes : List ℕ) (xs : List X) (rest : List ℕ) → arguments_at one bytes ≡ Ok (xs, rest) → Begins (SpellsCounted Spells) bytes xs rest × (0 < length xs)
  unfolding argument_count_at
  arguments_found bytes xs rest e =
      let a = bind_ok (argument_count_at bytes) (λ count. repeated one count.0 count.1) (xs, rest) e in
      let count = passing_found is_some bytes a.0.0 a.0.1 a.1 in
      let both = behind_count bytes a.0.0 a.0.1 (xs, rest) count.0 a.2 in
      let some : 0 < a.0.0 = ltb-true 0 a.0.0 count.1 in
      (both.0, subst (λ (k : ℕ). 0 < k) (sym both.1) some)

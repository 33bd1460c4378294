-- Methods are read as they are spelled.
use Rattle.std.proofs.Common.{◌≡◌, ℕ, true, List, [], ◌∷◌, ◌++◌, length, Ok, refl, sym, ap, subst, ◌∙◌, append_assoc, inl, inr}
use Rattle.cli_sigs.specs.declared.signature.RowCounts.{RowCounts}
use Rattle.cli_sigs.specs.declared.signature.SigTy.{SigTy}
use Rattle.cli_sigs.specs.declared.signature.SigMethod.{SigMethod}
use Rattle.cli_sigs.specs.declared.types.Callee.{Callee}
use Rattle.cli_sigs.specs.Reading.{Part, ◌>>=◌, repeated}
use Rattle.cli_sigs.specs.Compressed.{number_at}
use Rattle.cli_sigs.specs.Types.{target_at, param_at, flags_at, has_flag, are_flags, generic_count_at, method_at}
use Rattle.cli_sigs.specs.Grammar.{SpellsNumber, SpellsTarget, SpellsParam, SpellsEach, SpellsGenericCount, not_generic, is_generic, SpellsMethod, method, method_of}
use Rattle.cli_sigs.proofs.ReaderLaws.{Begins, Reads, bind_ok, test_ok, ok_is, joined}
use Rattle.cli_sigs.proofs.Numbers.{reads_number}
use Rattle.cli_sigs.proofs.Each.{each_again, each_found}
use Rattle.cli_sigs.proofs.Marked.{either}

-- ---- flags

flags_again : (who : Callee) (flags : ℕ) (rest : List ℕ) → are_flags who flags ≡ true → flags_at who (flags ∷ rest) ≡ Ok (flags, rest)
unfolding flags_at
flags_again who flags rest h = rw h refl

record AreFlags (who : Callee) (bytes : List ℕ) (flags : ℕ) (rest : List ℕ) : Type 0 where
  allowed : are_flags who flags ≡ true
  front : bytes ≡ flags ∷ rest

flags_found : (who : Callee) (bytes : List ℕ) (p : ℕ × List ℕ) → flags_at who bytes ≡ Ok p → AreFlags who bytes p.0 p.1
unfolding flags_at
flags_found who [] p e = absurd cc
flags_found who (flags ∷ rest) p e =
    let t = test_ok (are_flags who flags) (length (flags ∷ rest)) (flags, rest) p e in
    subst (λ (q : ℕ × List ℕ). AreFlags who (flags ∷ rest) q.0 q.1) t.1 (record { allowed = t.0; front = refl })

-- ---- the number of generic parameters

generic_again : (flags : ℕ) (text : List ℕ) (n : ℕ) (rest : List ℕ) → SpellsGenericCount flags text n → generic_count_at flags (text ++ rest) ≡ Ok (n, rest)
unfolding generic_count_at
generic_again flags text n rest (not_generic f h) = rw h refl
generic_again flags text n rest (is_generic f t m h s) = rw h (reads_number.again text n rest s)

generic_found : (flags : ℕ) (bytes : List ℕ) (p : ℕ × List ℕ) → generic_count_at flags bytes ≡ Ok p → Begins (SpellsGenericCount flags) bytes p.0 p.1
unfolding generic_count_at
generic_found flags bytes p e =
    elim (either (has_flag flags 0x10)) [
      | inl h ↦
          let x = reads_number.found bytes p.0 p.1 (rw h at e) in
          record { text = x.text; spelled = is_generic flags x.text p.0 h x.spelled; front = x.front }
      | inr h ↦ subst (λ (q : ℕ × List ℕ). Begins (SpellsGenericCount flags) bytes q.0 q.1) (ok_is (0, bytes) p (rw h at e)) (record { text = []; spelled = not_generic flags h; front = refl })
    ]

-- ---- the whole

regroup : (a b c d rest : List ℕ) → (a ++ (b ++ (c ++ d))) ++ rest ≡ a ++ (b ++ (c ++ (d ++ rest)))
regroup a b c d rest = simp append_assoc

module _ (counts : RowCounts) (one : List ℕ → Part SigTy) (Spells : List ℕ → SigTy → Type 0)
    (target : Reads (target_at counts one) (SpellsTarget counts Spells)) (param : Reads (param_at counts one) (SpellsParam counts Spells)) (who : Callee) where
  method_again : (text : List ℕ) (m : SigMethod) (rest : List ℕ) → SpellsMethod counts Spells who text m → method_at counts one who (text ++ rest) ≡ Ok (m, rest)
  unfolding method_at
  method_again text m rest (method flags generic count ret params n t ts allowed g c r p) =
      rw (
        regroup generic count ret params rest,
        flags_again who flags (generic ++ (count ++ (ret ++ (params ++ rest)))) allowed,
        generic_again flags generic n (count ++ (ret ++ (params ++ rest))) g,
        reads_number.again count (length ts) (ret ++ (params ++ rest)) c,
        target.again ret t (params ++ rest) r,
        each_again (param_at counts one) (SpellsParam counts Spells) param params ts rest p,
      ) refl

  built : (bytes after after2 after3 after4 rest : List ℕ) (f n k : ℕ) (t : SigTy) (ts : List SigTy) → AreFlags who bytes f after → Begins (SpellsGenericCount f) after n after2
      → Begins SpellsNumber after2 k after3 → Begins (SpellsTarget counts Spells) after3 t after4 → Begins (SpellsEach (SpellsParam counts Spells)) after4 ts rest → length ts ≡ k
      → Begins (SpellsMethod counts Spells who) bytes (method_of f n t ts) rest
  built bytes after after2 after3 after4 rest f n k t ts flags generic count ret params many = record {
    text = f ∷ (generic.text ++ (count.text ++ (ret.text ++ params.text)));
    spelled = method f generic.text count.text ret.text params.text n t ts flags.allowed generic.spelled (subst (λ (j : ℕ). SpellsNumber count.text j) (sym many) count.spelled) ret.spelled params.spelled;
    front = flags.front ∙ ap (λ (r : List ℕ). f ∷ r)
        (joined after generic.text after2 (count.text ++ (ret.text ++ params.text)) rest generic.front
        (joined after2 count.text after3 (ret.text ++ params.text) rest count.front
        (joined after3 ret.text after4 params.text rest ret.front params.front)));
  }

  method_found : (bytes : List ℕ) (m : SigMethod) (rest : List ℕ) → method_at counts one who bytes ≡ Ok (m, rest) → Begins (SpellsMethod counts Spells who) bytes m rest
  unfolding method_at
  method_found bytes m rest e =
      let a = bind_ok (flags_at who bytes) (λ flags. generic_count_at flags.0 flags.1 >>= λ generic. number_at generic.1 >>= λ count. target_at counts one count.1 >>= λ ret. repeated (param_at counts one) count.0 ret.1 >>= λ params. Ok (method_of flags.0 generic.0 ret.0 params.0, params.1)) (m, rest) e in
      let b = bind_ok (generic_count_at a.0.0 a.0.1) (λ generic. number_at generic.1 >>= λ count. target_at counts one count.1 >>= λ ret. repeated (param_at counts one) count.0 ret.1 >>= λ params. Ok (method_of a.0.0 generic.0 ret.0 params.0, params.1)) (m, rest) a.2 in
      let c = bind_ok (number_at b.0.1) (λ count. target_at counts one count.1 >>= λ ret. repeated (param_at counts one) count.0 ret.1 >>= λ params. Ok (method_of a.0.0 b.0.0 ret.0 params.0, params.1)) (m, rest) b.2 in
      let d = bind_ok (target_at counts one c.0.1) (λ ret. repeated (param_at counts one) c.0.0 ret.1 >>= λ params. Ok (method_of a.0.0 b.0.0 ret.0 params.0, params.1)) (m, rest) c.2 in
      let p = bind_ok (repeated (param_at counts one) c.0.0 d.0.1) (λ params. Ok (method_of a.0.0 b.0.0 d.0.0 params.0, params.1)) (m, rest) d.2 in
      let params = each_found (param_at counts one) (SpellsParam counts Spells) param c.0.0 d.0.1 p.0 p.1 in
      subst (λ (q : SigMethod × List ℕ). Begins (SpellsMethod counts Spells who) bytes q.0 q.1) {x = (method_of a.0.0 b.0.0 d.0.0 p.0.0, p.0.1)} (ok_is (method_of a.0.0 b.0.0 d.0.0 p.0.0, p.0.1) (m, rest) p.2)
      (built bytes a.0.1 b.0.1 c.0.1 d.0.1 p.0.1 a.0.0 b.0.0 c.0.0 d.0.0 p.0.0 (flags_found who bytes a.0 a.1) (generic_found a.0.0 a.0.1 b.0 b.1)
      (reads_number.found b.0.1 c.0.0 c.0.1 c.1) (target.found c.0.1 d.0.0 d.0.1 d.1) params.0 params.1)

  pub reads_method : Reads (method_at counts one who) (SpellsMethod counts Spells who)
  reads_method = record { found = method_found; again = method_again }

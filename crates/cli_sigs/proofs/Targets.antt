-- Void or a type, and parameters, are read as they are spelled.
use Rattle.std.proofs.Common.{◌≡◌, ℕ, false, eqb, List, [], ◌∷◌, ◌++◌, length, Ok, refl, sym, subst, inl, inr}
use Rattle.std.proofs.lemmas.Bool.{eqb-true}
use Rattle.cli_sigs.specs.declared.signature.RowCounts.{RowCounts}
use Rattle.cli_sigs.specs.declared.signature.SigTy.{SigTy}
use Rattle.cli_sigs.specs.declared.signature.SigTy.TheVariants as sig
use Rattle.cli_sigs.specs.declared.marks.Before.TheVariants as before
use Rattle.cli_sigs.specs.Reading.{Part, refused}
use Rattle.cli_sigs.specs.Marks.{mark_at, marks_at}
use Rattle.cli_sigs.specs.Types.{void_or_type_at, marked_type_at, target_at, past_sentinel, param_at}
use Rattle.cli_sigs.specs.Grammar.{SpellsMarked, SpellsVoidOr, void, a_type, SpellsParam, param, sentinel, SpellsTarget}
use Rattle.cli_sigs.proofs.ReaderLaws.{Begins, Reads, ok_is, done, headed}
use Rattle.cli_sigs.proofs.Marked.{IsGuarded, is_false, either, clash, reads_marked}

module _ (counts : RowCounts) (one : List ℕ → Part SigTy) (Spells : List ℕ → SigTy → Type 0)
    (guarded : IsGuarded one) (no_void : (rest : List ℕ) → one (0x01 ∷ rest) ≡ refused (0x01 ∷ rest)) (reads : Reads one Spells) where
  -- ---- void or a type

  guards_void_or : IsGuarded (void_or_type_at one)
  unfolding void_or_type_at
  guards_void_or = record { required = guarded.required; optional = guarded.optional; pin = guarded.pin; dots = guarded.dots }

  not_void : (bytes : List ℕ) (p : SigTy × List ℕ) → one bytes ≡ Ok p → void_or_type_at one bytes ≡ Ok p
  unfolding void_or_type_at
  not_void [] p e = e
  not_void (code ∷ rest) p e =
      let other : eqb code 0x01 ≡ false = is_false (eqb code 0x01) (λ h.
      let is : code ≡ 0x01 = eqb-true code 0x01 h in
      clash (one (0x01 ∷ rest)) (length (0x01 ∷ rest)) p (no_void rest) (subst (λ (c : ℕ). one (c ∷ rest) ≡ Ok p) is e)) in
      rw other e

  type_found : (bytes : List ℕ) (t : SigTy) (rest : List ℕ) → one bytes ≡ Ok (t, rest) → Begins (SpellsVoidOr Spells) bytes t rest
  type_found bytes t rest e =
      let x = reads.found bytes t rest e in
      record { text = x.text; spelled = a_type x.text t x.spelled; front = x.front }

  void_found : (code : ℕ) (more : List ℕ) (p : SigTy × List ℕ) → code ≡ 0x01 → Ok (sig.BuiltIn code, more) ≡ done p → Begins (SpellsVoidOr Spells) (code ∷ more) p.0 p.1
  void_found code more p is e =
      subst (λ (q : SigTy × List ℕ). Begins (SpellsVoidOr Spells) (code ∷ more) q.0 q.1) (ok_is (sig.BuiltIn code, more) p e)
      (subst (λ (c : ℕ). Begins (SpellsVoidOr Spells) (c ∷ more) (sig.BuiltIn c) more) (sym is) (record { text = 0x01 ∷ []; spelled = void; front = refl }))

  void_or_found : (bytes : List ℕ) (t : SigTy) (rest : List ℕ) → void_or_type_at one bytes ≡ Ok (t, rest) → Begins (SpellsVoidOr Spells) bytes t rest
  unfolding void_or_type_at
  void_or_found [] t rest e = type_found [] t rest e
  void_or_found (code ∷ more) t rest e =
      elim (either (eqb code 0x01)) [
        | inl h ↦ void_found code more (t, rest) (eqb-true code 0x01 h) (rw h at e)
        | inr h ↦ type_found (code ∷ more) t rest (rw h at e)
      ]

  void_or_again : (text : List ℕ) (t : SigTy) (rest : List ℕ) → SpellsVoidOr Spells text t → void_or_type_at one (text ++ rest) ≡ Ok (t, rest)
  unfolding void_or_type_at
  void_or_again text t rest void = refl
  void_or_again text t rest (a_type inner u s) = not_void (inner ++ rest) (t, rest) (reads.again inner t rest s)

  pub reads_target : Reads (target_at counts one) (SpellsTarget counts Spells)
  unfolding target_at
  reads_target = reads_marked counts before.Type (void_or_type_at one) (SpellsVoidOr Spells) guards_void_or (record { found = void_or_found; again = void_or_again })

  -- ---- parameters

  pub reads_marked_type : Reads (marked_type_at counts one) (SpellsMarked counts before.Type Spells)
  unfolding marked_type_at
  reads_marked_type = reads_marked counts before.Type one Spells guarded reads

  no_dots : (rest : List ℕ) → marked_type_at counts one (0x41 ∷ rest) ≡ refused (0x41 ∷ rest)
  unfolding marked_type_at marks_at mark_at
  no_dots rest = guarded.dots rest

  not_sentinel : (bytes : List ℕ) (p : SigTy × List ℕ) → marked_type_at counts one bytes ≡ Ok p → past_sentinel bytes ≡ bytes
  unfolding past_sentinel
  not_sentinel [] p e = refl
  not_sentinel (code ∷ rest) p e =
      let other : eqb code 0x41 ≡ false = is_false (eqb code 0x41) (λ h.
      let is : code ≡ 0x41 = eqb-true code 0x41 h in
      clash (marked_type_at counts one (0x41 ∷ rest)) (length (0x41 ∷ rest)) p (no_dots rest) (subst (λ (c : ℕ). marked_type_at counts one (c ∷ rest) ≡ Ok p) is e)) in
      rw other refl

  param_again : (text : List ℕ) (t : SigTy) (rest : List ℕ) → SpellsParam counts Spells text t → param_at counts one (text ++ rest) ≡ Ok (t, rest)
  unfolding param_at past_sentinel
  param_again text t rest (param inner u s) =
      let h = reads_marked_type.again inner t rest s in
      let same : past_sentinel (inner ++ rest) ≡ inner ++ rest = not_sentinel (inner ++ rest) (t, rest) h in
      rw same h
  param_again text t rest (sentinel inner u s) = reads_marked_type.again inner t rest s

  plain_found : (bytes : List ℕ) (t : SigTy) (rest : List ℕ) → marked_type_at counts one bytes ≡ Ok (t, rest) → Begins (SpellsParam counts Spells) bytes t rest
  plain_found bytes t rest e =
      let x = reads_marked_type.found bytes t rest e in
      record { text = x.text; spelled = param x.text t x.spelled; front = x.front }

  param_found : (bytes : List ℕ) (t : SigTy) (rest : List ℕ) → param_at counts one bytes ≡ Ok (t, rest) → Begins (SpellsParam counts Spells) bytes t rest
  unfolding param_at past_sentinel
  param_found [] t rest e = plain_found [] t rest e
  param_found (code ∷ more) t rest e =
      elim (either (eqb code 0x41)) [
        | inl h ↦
            let is : code ≡ 0x41 = eqb-true code 0x41 h in
            let x = reads_marked_type.found more t rest (rw h at e) in
            record { text = 0x41 ∷ x.text; spelled = sentinel x.text t x.spelled; front = headed code 0x41 more (x.text ++ rest) is x.front }
        | inr h ↦ plain_found (code ∷ more) t rest (rw h at e)
      ]

  pub reads_param : Reads (param_at counts one) (SpellsParam counts Spells)
  reads_param = record { found = param_found; again = param_again }

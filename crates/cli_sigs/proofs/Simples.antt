-- Types with no types in them are read as they are spelled.
use Rattle.std.proofs.Common.{◌≡◌, ℕ, true, false, eqb, List, [], ◌∷◌, ◌++◌, Option, Some, Ok, refl, sym, ap, subst, ◌∙◌, inl, inr}
use Rattle.std.proofs.lemmas.Bool.{eqb-true}
use Rattle.cli_sigs.specs.declared.signature.RowCounts.{RowCounts}
use Rattle.cli_sigs.specs.declared.signature.SigTy.{SigTy}
use Rattle.cli_sigs.specs.declared.signature.SigTy.TheVariants as sig
use Rattle.cli_sigs.specs.declared.element.Simple.{Simple}
use Rattle.cli_sigs.specs.declared.element.Simple.TheVariants as simple
use Rattle.cli_sigs.specs.declared.element.Constructor.{Constructor}
use Rattle.cli_sigs.specs.declared.element.Constructor.TheVariants as constructor
use Rattle.cli_sigs.specs.Compressed.{type_name_at, variable_at}
use Rattle.cli_sigs.specs.Element.{is_built_in, simple_of, constructor_of}
use Rattle.cli_sigs.specs.Types.{Reader, simple_at, level_at}
use Rattle.cli_sigs.specs.Grammar.{SpellsSimple, built_in, value_type, class, var, typed_by_ref, mvar}
use Rattle.cli_sigs.proofs.ReaderLaws.{Begins, bind_ok, ok_is, headed}
use Rattle.cli_sigs.proofs.Numbers.{reads_type_name, reads_variable}
use Rattle.cli_sigs.proofs.Marked.{either}

-- ---- the codes

abbrev chosen : {A : Type 0} → A → Option A
chosen x = Some x

chosen_is : {A : Type 0} (x y : A) → chosen x ≡ chosen y → x ≡ y
chosen_is x y e = cc

abbrev IsSimpleCode : ℕ → Simple → Type 0
IsSimpleCode code simple.BuiltIn = is_built_in code ≡ true
IsSimpleCode code simple.ValueType = code ≡ 0x11
IsSimpleCode code simple.Class = code ≡ 0x12
IsSimpleCode code simple.Var = code ≡ 0x13
IsSimpleCode code simple.TypedByRef = code ≡ 0x16
IsSimpleCode code simple.MVar = code ≡ 0x1E

simple_code : (code : ℕ) (s : Simple) → simple_of code ≡ Some s → IsSimpleCode code s
unfolding simple_of
simple_code code s e =
    elim (either (is_built_in code)) [
      | inl a ↦ subst (IsSimpleCode code) (chosen_is simple.BuiltIn s (rw a at e)) a
      | inr a ↦ elim (either (eqb code 0x11)) [
        | inl b ↦ subst (IsSimpleCode code) (chosen_is simple.ValueType s (rw (a, b) at e)) (eqb-true code 0x11 b)
        | inr b ↦ elim (either (eqb code 0x12)) [
          | inl c ↦ subst (IsSimpleCode code) (chosen_is simple.Class s (rw (a, b, c) at e)) (eqb-true code 0x12 c)
          | inr c ↦ elim (either (eqb code 0x13)) [
            | inl d ↦ subst (IsSimpleCode code) (chosen_is simple.Var s (rw (a, b, c, d) at e)) (eqb-true code 0x13 d)
            | inr d ↦ elim (either (eqb code 0x16)) [
              | inl f ↦ subst (IsSimpleCode code) (chosen_is simple.TypedByRef s (rw (a, b, c, d, f) at e)) (eqb-true code 0x16 f)
              | inr f ↦ elim (either (eqb code 0x1E)) [
                | inl g ↦ subst (IsSimpleCode code) (chosen_is simple.MVar s (rw (a, b, c, d, f, g) at e)) (eqb-true code 0x1E g)
                | inr g ↦ absurd (cc (rw (a, b, c, d, f, g) at e))
              ]
            ]
          ]
        ]
      ]
    ]

abbrev pub IsConstructorCode : ℕ → Constructor → Type 0
IsConstructorCode code constructor.Ptr = code ≡ 0x0F
IsConstructorCode code constructor.ByRef = code ≡ 0x10
IsConstructorCode code constructor.Array = code ≡ 0x14
IsConstructorCode code constructor.GenericInst = code ≡ 0x15
IsConstructorCode code constructor.FnPtr = code ≡ 0x1B
IsConstructorCode code constructor.SzArray = code ≡ 0x1D

pub constructor_code : (code : ℕ) (k : Constructor) → constructor_of code ≡ Some k → IsConstructorCode code k
unfolding constructor_of
constructor_code code k e =
    elim (either (eqb code 0x0F)) [
      | inl a ↦ subst (IsConstructorCode code) (chosen_is constructor.Ptr k (rw a at e)) (eqb-true code 0x0F a)
      | inr a ↦ elim (either (eqb code 0x10)) [
        | inl b ↦ subst (IsConstructorCode code) (chosen_is constructor.ByRef k (rw (a, b) at e)) (eqb-true code 0x10 b)
        | inr b ↦ elim (either (eqb code 0x14)) [
          | inl c ↦ subst (IsConstructorCode code) (chosen_is constructor.Array k (rw (a, b, c) at e)) (eqb-true code 0x14 c)
          | inr c ↦ elim (either (eqb code 0x15)) [
            | inl d ↦ subst (IsConstructorCode code) (chosen_is constructor.GenericInst k (rw (a, b, c, d) at e)) (eqb-true code 0x15 d)
            | inr d ↦ elim (either (eqb code 0x1B)) [
              | inl f ↦ subst (IsConstructorCode code) (chosen_is constructor.FnPtr k (rw (a, b, c, d, f) at e)) (eqb-true code 0x1B f)
              | inr f ↦ elim (either (eqb code 0x1D)) [
                | inl g ↦ subst (IsConstructorCode code) (chosen_is constructor.SzArray k (rw (a, b, c, d, f, g) at e)) (eqb-true code 0x1D g)
                | inr g ↦ absurd (cc (rw (a, b, c, d, f, g) at e))
              ]
            ]
          ]
        ]
      ]
    ]

-- ---- the types

module _ (counts : RowCounts) where
  pub simple_again : (one : Option (Reader SigTy)) (text : List ℕ) (t : SigTy) (rest : List ℕ) → SpellsSimple counts text t → level_at counts one (text ++ rest) ≡ Ok (t, rest)
  unfolding level_at simple_at simple_of
  simple_again one text t rest (built_in code h) = rw h refl
  simple_again one text t rest (value_type name n s) = rw ((reads_type_name counts).again name n rest s) refl
  simple_again one text t rest (class name n s) = rw ((reads_type_name counts).again name n rest s) refl
  simple_again one text t rest (var v n s) = rw (reads_variable.again v n rest s) refl
  simple_again one text t rest typed_by_ref = refl
  simple_again one text t rest (mvar v n s) = rw (reads_variable.again v n rest s) refl

  abbrev Found : List ℕ → SigTy × List ℕ → Type 0
  Found bytes p = Begins (SpellsSimple counts) bytes p.0 p.1

  simple_by : (code : ℕ) (more : List ℕ) (s : Simple) (p : SigTy × List ℕ) → IsSimpleCode code s → simple_at counts code s more ≡ Ok p → Found (code ∷ more) p
  unfolding simple_at
  simple_by code more simple.BuiltIn p is e =
      subst (Found (code ∷ more)) (ok_is (sig.BuiltIn code, more) p e) (record { text = code ∷ []; spelled = built_in code is; front = refl })
  simple_by code more simple.ValueType p is e =
      let b = bind_ok (type_name_at counts more) (λ name. Ok (sig.Inst name.0 true [], name.1)) p e in
      let x = (reads_type_name counts).found more b.0.0 b.0.1 b.1 in
      subst (Found (code ∷ more)) (ok_is (sig.Inst b.0.0 true [], b.0.1) p b.2) (record { text = 0x11 ∷ x.text; spelled = value_type x.text b.0.0 x.spelled; front = headed code 0x11 more (x.text ++ b.0.1) is x.front })
  simple_by code more simple.Class p is e =
      let b = bind_ok (type_name_at counts more) (λ name. Ok (sig.Inst name.0 false [], name.1)) p e in
      let x = (reads_type_name counts).found more b.0.0 b.0.1 b.1 in
      subst (Found (code ∷ more)) (ok_is (sig.Inst b.0.0 false [], b.0.1) p b.2) (record { text = 0x12 ∷ x.text; spelled = class x.text b.0.0 x.spelled; front = headed code 0x12 more (x.text ++ b.0.1) is x.front })
  simple_by code more simple.Var p is e =
      let b = bind_ok (variable_at more) (λ n. Ok (sig.Var n.0, n.1)) p e in
      let x = reads_variable.found more b.0.0 b.0.1 b.1 in
      subst (Found (code ∷ more)) (ok_is (sig.Var b.0.0, b.0.1) p b.2) (record { text = 0x13 ∷ x.text; spelled = var x.text b.0.0 x.spelled; front = headed code 0x13 more (x.text ++ b.0.1) is x.front })
  simple_by code more simple.TypedByRef p is e =
      let odd : SigTy × List ℕ = (sig.Odd 0x16, more) in
      let same : (sig.Odd code, more) ≡ odd = ap (λ (c : ℕ). (sig.Odd c, more)) is in
      subst (Found (code ∷ more)) (sym same ∙ ok_is (sig.Odd code, more) p e) (record { text = 0x16 ∷ []; spelled = typed_by_ref; front = headed code 0x16 more more is refl })
  simple_by code more simple.MVar p is e =
      let b = bind_ok (variable_at more) (λ n. Ok (sig.MVar n.0, n.1)) p e in
      let x = reads_variable.found more b.0.0 b.0.1 b.1 in
      subst (Found (code ∷ more)) (ok_is (sig.MVar b.0.0, b.0.1) p b.2) (record { text = 0x1E ∷ x.text; spelled = mvar x.text b.0.0 x.spelled; front = headed code 0x1E more (x.text ++ b.0.1) is x.front })

  pub simple_found : (code : ℕ) (more : List ℕ) (s : Simple) (t : SigTy) (rest : List ℕ) → simple_of code ≡ Some s → simple_at counts code s more ≡ Ok (t, rest) → Begins (SpellsSimple counts) (code ∷ more) t rest
  simple_found code more s t rest h e = simple_by code more s (t, rest) (simple_code code s h) e

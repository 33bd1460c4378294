-- Types with types in them are read as they are spelled.
use Rattle.std.proofs.Common.{◌≡◌, ℕ, ◌<◌, Bool, true, false, eqb, List, [], ◌∷◌, ◌++◌, length, Some, Ok, refl, ap, subst, ◌∙◌, append_assoc, inl, inr}
use Rattle.std.proofs.lemmas.Bool.{eqb-true}
use Rattle.cli_sigs.specs.declared.signature.RowCounts.{RowCounts}
use Rattle.cli_sigs.specs.declared.signature.SigTy.{SigTy}
use Rattle.cli_sigs.specs.declared.signature.SigTy.TheVariants as sig
use Rattle.cli_sigs.specs.declared.element.Constructor.{Constructor}
use Rattle.cli_sigs.specs.declared.element.Constructor.TheVariants as constructor
use Rattle.cli_sigs.specs.declared.marks.Before.TheVariants as before
use Rattle.cli_sigs.specs.declared.types.Callee.TheVariants as callee
use Rattle.cli_sigs.specs.Reading.{Part, ◌>>=◌, refused}
use Rattle.cli_sigs.specs.Compressed.{number_at, type_name_at, counted_at, arguments_at}
use Rattle.cli_sigs.specs.Element.{simple_of, constructor_of}
use Rattle.cli_sigs.specs.Types.{target_at, marked_type_at, numbers_at, array_at, is_value_at, generic_inst_at, method_at, constructed_at, level_at}
use Rattle.cli_sigs.specs.Grammar.{SpellsNumber, SpellsTypeName, SpellsMarked, SpellsTarget, SpellsCounted, SpellsMethod, SpellsConstructed, ptr, by_ref, sz_array, array, generic_inst, fn_ptr, kind_code}
use Rattle.cli_sigs.proofs.ReaderLaws.{Begins, Reads, bind_ok, ok_is, joined, headed}
use Rattle.cli_sigs.proofs.Numbers.{reads_number, reads_type_name}
use Rattle.cli_sigs.proofs.Each.{reads_counted, arguments_again, arguments_found}
use Rattle.cli_sigs.proofs.Marked.{IsGuarded, either}
use Rattle.cli_sigs.proofs.Targets.{reads_target, reads_marked_type, reads_param}
use Rattle.cli_sigs.proofs.Methods.{reads_method}
use Rattle.cli_sigs.proofs.Simples.{IsConstructorCode, constructor_code}

-- ---- a count and that many numbers

numbers_again : (text : List ℕ) (ns : List ℕ) (rest : List ℕ) → SpellsCounted SpellsNumber text ns → numbers_at (text ++ rest) ≡ Ok rest
unfolding numbers_at
numbers_again text ns rest s = rw ((reads_counted number_at SpellsNumber reads_number).again text ns rest s) refl

record AreNumbers (bytes rest : List ℕ) : Type 0 where
  numbers : List ℕ
  begins : Begins (SpellsCounted SpellsNumber) bytes numbers rest

numbers_found : (bytes rest : List ℕ) → numbers_at bytes ≡ Ok rest → AreNumbers bytes rest
unfolding numbers_at
numbers_found bytes rest e =
    let b = bind_ok (counted_at number_at bytes) (λ numbers. Ok numbers.1) rest e in
    subst (AreNumbers bytes) (ok_is b.0.1 rest b.2) (record { numbers = b.0.0; begins = (reads_counted number_at SpellsNumber reads_number).found bytes b.0.0 b.0.1 b.1 })

-- ---- whether an instantiation is of a value type

is_value_again : (value : Bool) (rest : List ℕ) → is_value_at (kind_code value ∷ rest) ≡ Ok (value, rest)
unfolding is_value_at
is_value_again true rest = refl
is_value_again false rest = refl

is_value_found : (bytes : List ℕ) (p : Bool × List ℕ) → is_value_at bytes ≡ Ok p → bytes ≡ kind_code p.0 ∷ p.1
unfolding is_value_at
is_value_found [] p e = absurd cc
is_value_found (code ∷ rest) p e =
    elim (either (eqb code 0x11)) [
      | inl a ↦ subst (λ (q : Bool × List ℕ). code ∷ rest ≡ kind_code q.0 ∷ q.1) (ok_is (true, rest) p (rw a at e)) (headed code 0x11 rest rest (eqb-true code 0x11 a) refl)
      | inr a ↦ elim (either (eqb code 0x12)) [
        | inl b ↦ subst (λ (q : Bool × List ℕ). code ∷ rest ≡ kind_code q.0 ∷ q.1) (ok_is (false, rest) p (rw (a, b) at e)) (headed code 0x12 rest rest (eqb-true code 0x12 b) refl)
        | inr b ↦ absurd (cc (rw (a, b) at e))
      ]
    ]

regroup : (a b c d rest : List ℕ) → (a ++ (b ++ (c ++ d))) ++ rest ≡ a ++ (b ++ (c ++ (d ++ rest)))
regroup a b c d rest = simp append_assoc

module _ (counts : RowCounts) (one : List ℕ → Part SigTy) (Spells : List ℕ → SigTy → Type 0)
    (guarded : IsGuarded one) (no_void : (rest : List ℕ) → one (0x01 ∷ rest) ≡ refused (0x01 ∷ rest)) (reads : Reads one Spells) where
  abbrev Found : List ℕ → SigTy × List ℕ → Type 0
  Found bytes p = Begins (SpellsConstructed counts Spells) bytes p.0 p.1

  -- ---- arrays

  array_again : (element rank sizes bounds : List ℕ) (t : SigTy) (r : ℕ) (ss bs : List ℕ) (rest : List ℕ)
      → Spells element t → SpellsNumber rank r → SpellsCounted SpellsNumber sizes ss → SpellsCounted SpellsNumber bounds bs
      → array_at one ((element ++ (rank ++ (sizes ++ bounds))) ++ rest) ≡ Ok (sig.Odd 0x14, rest)
  unfolding array_at
  array_again element rank sizes bounds t r ss bs rest e n s b =
      rw (
        regroup element rank sizes bounds rest,
        reads.again element t (rank ++ (sizes ++ (bounds ++ rest))) e,
        reads_number.again rank r (sizes ++ (bounds ++ rest)) n,
        numbers_again sizes ss (bounds ++ rest) s,
        numbers_again bounds bs rest b,
      ) refl

  array_built : (code : ℕ) (more after after2 after3 rest : List ℕ) (t : SigTy) (r : ℕ) → code ≡ 0x14 → Begins Spells more t after → Begins SpellsNumber after r after2 → AreNumbers after2 after3 → AreNumbers after3 rest → Found (code ∷ more) (sig.Odd 0x14, rest)
  array_built code more after after2 after3 rest t r is e n s b = record {
    text = 0x14 ∷ (e.text ++ (n.text ++ (s.begins.text ++ b.begins.text)));
    spelled = array e.text n.text s.begins.text b.begins.text t r s.numbers b.numbers e.spelled n.spelled s.begins.spelled b.begins.spelled;
    front = headed code 0x14 more ((e.text ++ (n.text ++ (s.begins.text ++ b.begins.text))) ++ rest) is
        (joined more e.text after (n.text ++ (s.begins.text ++ b.begins.text)) rest e.front
        (joined after n.text after2 (s.begins.text ++ b.begins.text) rest n.front
        (joined after2 s.begins.text after3 b.begins.text rest s.begins.front b.begins.front)));
  }

  array_found : (code : ℕ) (more : List ℕ) (p : SigTy × List ℕ) → code ≡ 0x14 → array_at one more ≡ Ok p → Found (code ∷ more) p
  unfolding array_at
  array_found code more p is e =
      let a = bind_ok (one more) (λ element. number_at element.1 >>= λ rank. numbers_at rank.1 >>= λ sizes. numbers_at sizes >>= λ bounds. Ok (sig.Odd 0x14, bounds)) p e in
      let b = bind_ok (number_at a.0.1) (λ rank. numbers_at rank.1 >>= λ sizes. numbers_at sizes >>= λ bounds. Ok (sig.Odd 0x14, bounds)) p a.2 in
      let c = bind_ok (numbers_at b.0.1) (λ sizes. numbers_at sizes >>= λ bounds. Ok (sig.Odd 0x14, bounds)) p b.2 in
      let d = bind_ok (numbers_at c.0) (λ bounds. Ok (sig.Odd 0x14, bounds)) p c.2 in
      subst (Found (code ∷ more)) {x = (sig.Odd 0x14, d.0)} (ok_is (sig.Odd 0x14, d.0) p d.2)
      (array_built code more a.0.1 b.0.1 c.0 d.0 a.0.0 b.0.0 is (reads.found more a.0.0 a.0.1 a.1) (reads_number.found a.0.1 b.0.0 b.0.1 b.1) (numbers_found b.0.1 c.0 c.1) (numbers_found c.0 d.0 d.1))

  -- ---- instantiations

  generic_again : (value : Bool) (name args : List ℕ) (n : ℕ) (ts : List SigTy) (rest : List ℕ) → SpellsTypeName counts name n → 0 < length ts → SpellsCounted Spells args ts
      → generic_inst_at counts one (kind_code value ∷ ((name ++ args) ++ rest)) ≡ Ok (sig.Inst n value ts, rest)
  unfolding generic_inst_at
  generic_again value name args n ts rest s some h =
      rw (append_assoc name args rest, is_value_again value (name ++ (args ++ rest)), (reads_type_name counts).again name n (args ++ rest) s, arguments_again one Spells reads args ts rest some h) refl

  generic_built : (code : ℕ) (more after after2 rest : List ℕ) (value : Bool) (n : ℕ) (ts : List SigTy) → code ≡ 0x15 → more ≡ kind_code value ∷ after → Begins (SpellsTypeName counts) after n after2
      → Begins (SpellsCounted Spells) after2 ts rest → 0 < length ts → Found (code ∷ more) (sig.Inst n value ts, rest)
  generic_built code more after after2 rest value n ts is v name args some = record {
    text = 0x15 ∷ kind_code value ∷ (name.text ++ args.text);
    spelled = generic_inst value name.text args.text n ts name.spelled some args.spelled;
    front = headed code 0x15 more (kind_code value ∷ ((name.text ++ args.text) ++ rest)) is
        (v ∙ ap (λ (r : List ℕ). kind_code value ∷ r) (joined after name.text after2 args.text rest name.front args.front));
  }

  generic_found : (code : ℕ) (more : List ℕ) (p : SigTy × List ℕ) → code ≡ 0x15 → generic_inst_at counts one more ≡ Ok p → Found (code ∷ more) p
  unfolding generic_inst_at
  generic_found code more p is e =
      let a = bind_ok (is_value_at more) (λ value. type_name_at counts value.1 >>= λ name. arguments_at one name.1 >>= λ args. Ok (sig.Inst name.0 value.0 args.0, args.1)) p e in
      let b = bind_ok (type_name_at counts a.0.1) (λ name. arguments_at one name.1 >>= λ args. Ok (sig.Inst name.0 a.0.0 args.0, args.1)) p a.2 in
      let c = bind_ok (arguments_at one b.0.1) (λ args. Ok (sig.Inst b.0.0 a.0.0 args.0, args.1)) p b.2 in
      let args = arguments_found one Spells reads b.0.1 c.0.0 c.0.1 c.1 in
      subst (Found (code ∷ more)) {x = (sig.Inst b.0.0 a.0.0 c.0.0, c.0.1)} (ok_is (sig.Inst b.0.0 a.0.0 c.0.0, c.0.1) p c.2)
      (generic_built code more a.0.1 b.0.1 c.0.1 a.0.0 b.0.0 c.0.0 is (is_value_found more a.0 a.1) ((reads_type_name counts).found a.0.1 b.0.0 b.0.1 b.1) args.0 args.1)

  -- ---- all of them

  target : Reads (target_at counts one) (SpellsTarget counts Spells)
  target = reads_target counts one Spells guarded no_void reads

  marked_type : Reads (marked_type_at counts one) (SpellsMarked counts before.Type Spells)
  marked_type = reads_marked_type counts one Spells guarded no_void reads

  pointed : Reads (method_at counts one callee.Pointer) (SpellsMethod counts Spells callee.Pointer)
  pointed = reads_method counts one Spells target (reads_param counts one Spells guarded no_void reads) callee.Pointer

  pub constructed_again : (text : List ℕ) (t : SigTy) (rest : List ℕ) → SpellsConstructed counts Spells text t → level_at counts (Some one) (text ++ rest) ≡ Ok (t, rest)
  unfolding level_at constructed_at simple_of constructor_of
  constructed_again text t rest (ptr x u s) = rw (target.again x u rest s) refl
  constructed_again text t rest (by_ref x u s) = rw (marked_type.again x u rest s) refl
  constructed_again text t rest (sz_array x u s) = rw (marked_type.again x u rest s) refl
  constructed_again text t rest (array element rank sizes bounds u r ss bs e n s b) = array_again element rank sizes bounds u r ss bs rest e n s b
  constructed_again text t rest (generic_inst value name args n ts s some h) = generic_again value name args n ts rest s some h
  constructed_again text t rest (fn_ptr x m s) = rw (pointed.again x m rest s) refl

  constructed_by : (code : ℕ) (more : List ℕ) (k : Constructor) (p : SigTy × List ℕ) → IsConstructorCode code k → constructed_at counts one k more ≡ Ok p → Found (code ∷ more) p
  unfolding constructed_at
  constructed_by code more constructor.Ptr p is e =
      let b = bind_ok (target_at counts one more) (λ t. Ok (sig.Ptr t.0, t.1)) p e in
      let x = target.found more b.0.0 b.0.1 b.1 in
      subst (Found (code ∷ more)) (ok_is (sig.Ptr b.0.0, b.0.1) p b.2) (record { text = 0x0F ∷ x.text; spelled = ptr x.text b.0.0 x.spelled; front = headed code 0x0F more (x.text ++ b.0.1) is x.front })
  constructed_by code more constructor.ByRef p is e =
      let b = bind_ok (marked_type_at counts one more) (λ t. Ok (sig.ByRef t.0, t.1)) p e in
      let x = marked_type.found more b.0.0 b.0.1 b.1 in
      subst (Found (code ∷ more)) (ok_is (sig.ByRef b.0.0, b.0.1) p b.2) (record { text = 0x10 ∷ x.text; spelled = by_ref x.text b.0.0 x.spelled; front = headed code 0x10 more (x.text ++ b.0.1) is x.front })
  constructed_by code more constructor.SzArray p is e =
      let b = bind_ok (marked_type_at counts one more) (λ t. Ok (sig.Array t.0, t.1)) p e in
      let x = marked_type.found more b.0.0 b.0.1 b.1 in
      subst (Found (code ∷ more)) (ok_is (sig.Array b.0.0, b.0.1) p b.2) (record { text = 0x1D ∷ x.text; spelled = sz_array x.text b.0.0 x.spelled; front = headed code 0x1D more (x.text ++ b.0.1) is x.front })
  constructed_by code more constructor.Array p is e = array_found code more p is e
  constructed_by code more constructor.GenericInst p is e = generic_found code more p is e
  constructed_by code more constructor.FnPtr p is e =
      let b = bind_ok (method_at counts one callee.Pointer more) (λ m. Ok (sig.Odd 0x1B, m.1)) p e in
      let x = pointed.found more b.0.0 b.0.1 b.1 in
      subst (Found (code ∷ more)) (ok_is (sig.Odd 0x1B, b.0.1) p b.2) (record { text = 0x1B ∷ x.text; spelled = fn_ptr x.text b.0.0 x.spelled; front = headed code 0x1B more (x.text ++ b.0.1) is x.front })

  pub constructed_found : (code : ℕ) (more : List ℕ) (k : Constructor) (t : SigTy) (rest : List ℕ) → constructor_of code ≡ Some k → constructed_at counts one k more ≡ Ok (t, rest) → Begins (SpellsConstructed counts Spells) (code ∷ more) t rest
  constructed_found code more k t rest h e = constructed_by code more k (t, rest) (constructor_code code k h) e

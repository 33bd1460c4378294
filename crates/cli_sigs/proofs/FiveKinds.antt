-- The five kinds of signature are read as they are spelled.
use Rattle.std.proofs.Common.{◌≡◌, ℕ, true, eqb, List, [], ◌∷◌, ◌++◌, length, Result, Ok, Err, refl, ap, subst, ◌∙◌}
use Rattle.std.specs.Prelude.{IfOk}
use Rattle.std.proofs.lemmas.Bool.{eqb-true}
use Rattle.cli_sigs.specs.declared.signature.RowCounts.{RowCounts}
use Rattle.cli_sigs.specs.declared.signature.SigTy.{SigTy}
use Rattle.cli_sigs.specs.declared.fault.SigFault.{SigFault}
use Rattle.cli_sigs.specs.declared.marks.Before.TheVariants as before
use Rattle.cli_sigs.specs.declared.types.Callee.TheVariants as callee
use Rattle.cli_sigs.specs.Reading.{Part, refused}
use Rattle.cli_sigs.specs.Compressed.{counted_at, arguments_at}
use Rattle.cli_sigs.specs.Types.{marked_type_at}
use Rattle.cli_sigs.specs.Signatures.{whole_type_at, kind_at, field_at, member_at, local_at, locals_at, method_spec_at, placed, Answers}
use Rattle.cli_sigs.specs.Grammar.{SpellsTypeSpec, SpellsMarked, SpellsCounted, SpellsField, field, SpellsMember, SpellsLocals, locals, SpellsMethodSpec, method_spec, Holds}
use Rattle.cli_sigs.proofs.ReaderLaws.{Begins, Reads, bind_ok, test_ok, ok_is, headed}
use Rattle.cli_sigs.proofs.Each.{reads_counted, arguments_again, arguments_found}
use Rattle.cli_sigs.proofs.Marked.{IsGuarded, reads_marked}
use Rattle.cli_sigs.proofs.Targets.{reads_target, reads_marked_type, reads_param}
use Rattle.cli_sigs.proofs.Methods.{reads_method}
use Rattle.cli_sigs.proofs.WholeTypes.{guards_type, type_no_void, reads_type}

-- ---- the code in front

kind_again : (kind : ℕ) (rest : List ℕ) → eqb kind kind ≡ true → kind_at kind (kind ∷ rest) ≡ Ok rest
unfolding kind_at
kind_again kind rest h = rw h refl

kind_found : (kind : ℕ) (bytes rest : List ℕ) → kind_at kind bytes ≡ Ok rest → bytes ≡ kind ∷ rest
unfolding kind_at
kind_found kind [] rest e = absurd cc
kind_found kind (code ∷ more) rest e =
    let t = test_ok (eqb code kind) (length (code ∷ more)) more rest e in
    headed code kind more rest (eqb-true code kind t.0) t.1

module _ (counts : RowCounts) where
  -- ---- types

  reads_whole_type : Reads (whole_type_at counts) (SpellsTypeSpec counts)
  unfolding whole_type_at SpellsTypeSpec
  reads_whole_type = reads_type counts 64

  guards_whole_type : IsGuarded (whole_type_at counts)
  unfolding whole_type_at
  guards_whole_type = guards_type counts 64

  whole_no_void : (rest : List ℕ) → whole_type_at counts (0x01 ∷ rest) ≡ refused (0x01 ∷ rest)
  unfolding whole_type_at
  whole_no_void = type_no_void counts 64

  pub reads_type_spec : Reads (whole_type_at counts) (SpellsTypeSpec counts)
  reads_type_spec = reads_whole_type

  -- ---- fields

  marked_type : Reads (marked_type_at counts (whole_type_at counts)) (SpellsMarked counts before.Type (SpellsTypeSpec counts))
  marked_type = reads_marked_type counts (whole_type_at counts) (SpellsTypeSpec counts) guards_whole_type whole_no_void reads_whole_type

  field_again : (text : List ℕ) (t : SigTy) (rest : List ℕ) → SpellsField counts text t → field_at counts (text ++ rest) ≡ Ok (t, rest)
  unfolding field_at
  field_again text t rest (field inner u s) = rw (kind_again 0x06 (inner ++ rest) refl) (marked_type.again inner t rest s)

  field_found : (bytes : List ℕ) (t : SigTy) (rest : List ℕ) → field_at counts bytes ≡ Ok (t, rest) → Begins (SpellsField counts) bytes t rest
  unfolding field_at
  field_found bytes t rest e =
      let b = bind_ok (kind_at 0x06 bytes) (marked_type_at counts (whole_type_at counts)) (t, rest) e in
      let x = marked_type.found b.0 t rest b.2 in
      record { text = 0x06 ∷ x.text; spelled = field x.text t x.spelled; front = kind_found 0x06 bytes b.0 b.1 ∙ ap (λ (r : List ℕ). 0x06 ∷ r) x.front }

  pub reads_field : Reads (field_at counts) (SpellsField counts)
  reads_field = record { found = field_found; again = field_again }

  -- ---- methods

  pub reads_member : Reads (member_at counts) (SpellsMember counts)
  unfolding member_at
  reads_member = reads_method counts (whole_type_at counts) (SpellsTypeSpec counts)
      (reads_target counts (whole_type_at counts) (SpellsTypeSpec counts) guards_whole_type whole_no_void reads_whole_type)
      (reads_param counts (whole_type_at counts) (SpellsTypeSpec counts) guards_whole_type whole_no_void reads_whole_type) callee.Member

  -- ---- locals

  reads_local : Reads (local_at counts) (SpellsMarked counts before.Local (SpellsTypeSpec counts))
  unfolding local_at
  reads_local = reads_marked counts before.Local (whole_type_at counts) (SpellsTypeSpec counts) guards_whole_type reads_whole_type

  listed : Reads (counted_at (local_at counts)) (SpellsCounted (SpellsMarked counts before.Local (SpellsTypeSpec counts)))
  listed = reads_counted (local_at counts) (SpellsMarked counts before.Local (SpellsTypeSpec counts)) reads_local

  locals_again : (text : List ℕ) (ts : List SigTy) (rest : List ℕ) → SpellsLocals counts text ts → locals_at counts (text ++ rest) ≡ Ok (ts, rest)
  unfolding locals_at
  locals_again text ts rest (locals inner us s) = rw (kind_again 0x07 (inner ++ rest) refl) (listed.again inner ts rest s)

  locals_found : (bytes : List ℕ) (ts : List SigTy) (rest : List ℕ) → locals_at counts bytes ≡ Ok (ts, rest) → Begins (SpellsLocals counts) bytes ts rest
  unfolding locals_at
  locals_found bytes ts rest e =
      let b = bind_ok (kind_at 0x07 bytes) (counted_at (local_at counts)) (ts, rest) e in
      let x = listed.found b.0 ts rest b.2 in
      record { text = 0x07 ∷ x.text; spelled = locals x.text ts x.spelled; front = kind_found 0x07 bytes b.0 b.1 ∙ ap (λ (r : List ℕ). 0x07 ∷ r) x.front }

  pub reads_locals : Reads (locals_at counts) (SpellsLocals counts)
  reads_locals = record { found = locals_found; again = locals_again }

  -- ---- generic arguments of a method

  method_spec_again : (text : List ℕ) (ts : List SigTy) (rest : List ℕ) → SpellsMethodSpec counts text ts → method_spec_at counts (text ++ rest) ≡ Ok (ts, rest)
  unfolding method_spec_at
  method_spec_again text ts rest (method_spec inner us some s) =
      rw (kind_again 0x0A (inner ++ rest) refl) (arguments_again (whole_type_at counts) (SpellsTypeSpec counts) reads_whole_type inner ts rest some s)

  method_spec_found : (bytes : List ℕ) (ts : List SigTy) (rest : List ℕ) → method_spec_at counts bytes ≡ Ok (ts, rest) → Begins (SpellsMethodSpec counts) bytes ts rest
  unfolding method_spec_at
  method_spec_found bytes ts rest e =
      let b = bind_ok (kind_at 0x0A bytes) (arguments_at (whole_type_at counts)) (ts, rest) e in
      let x = arguments_found (whole_type_at counts) (SpellsTypeSpec counts) reads_whole_type b.0 ts rest b.2 in
      record { text = 0x0A ∷ x.0.text; spelled = method_spec x.0.text ts x.1 x.0.spelled; front = kind_found 0x0A bytes b.0 b.1 ∙ ap (λ (r : List ℕ). 0x0A ∷ r) x.0.front }

  pub reads_method_spec : Reads (method_spec_at counts) (SpellsMethodSpec counts)
  reads_method_spec = record { found = method_spec_found; again = method_spec_again }

-- ---- what a public reader says

module _ {X : Type 0} (one : List ℕ → Part X) (Spells : List ℕ → X → Type 0) (reads : Reads one Spells) where
  held : (blob : List ℕ) (x : X) (part : Part X) → one blob ≡ part → placed blob part ≡ Ok x → Holds Spells blob x
  held blob x (Ok p) h e =
      let is : p.0 ≡ x = ok_is p.0 x e in
      let b = reads.found blob p.0 p.1 h in
      record { text = b.text; ignored = p.1; spelled = subst (Spells b.text) is b.spelled; whole = b.front }
  held blob x (Err left) h e = absurd cc

  pub answers_found : (blob : List ℕ) (result : Result X SigFault) → Answers result (placed blob (one blob)) → IfOk result (λ x. Holds Spells blob x)
  answers_found blob (Ok x) h = held blob x (one blob) refl h
  answers_found blob (Err e) h = tt

  pub answers_only : (blob : List ℕ) (result : Result X SigFault) → Answers result (placed blob (one blob)) → (x : X) → Holds Spells blob x → Answers result (Ok x)
  answers_only blob result h x holds =
      let e : one blob ≡ Ok (x, holds.ignored) = ap one holds.whole ∙ reads.again holds.text x holds.ignored holds.spelled in
      subst (λ (part : Part X). Answers result (placed blob part)) e h

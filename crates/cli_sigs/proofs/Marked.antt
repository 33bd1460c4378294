-- What stands before a type is skipped as it is spelled.
use Rattle.std.proofs.Common.{◌≡◌, ℕ, zero, suc, ◌≤◌, Bool, true, false, eqb, List, [], ◌∷◌, ◌++◌, length, Option, Some, None, Ok, Err, refl, ap, subst, ◌∙◌, append_assoc, arith, ◌⊎◌, inl, inr, length-append}
use Rattle.std.proofs.lemmas.Bool.{eqb-true}
use Rattle.cli_sigs.specs.declared.signature.RowCounts.{RowCounts}
use Rattle.cli_sigs.specs.declared.signature.SigTy.{SigTy}
use Rattle.cli_sigs.specs.declared.marks.Before.{Before}
use Rattle.cli_sigs.specs.declared.marks.Before.TheVariants as before
use Rattle.cli_sigs.specs.Reading.{Answer, Part, refused}
use Rattle.cli_sigs.specs.Compressed.{names_row, modifier_name_at}
use Rattle.cli_sigs.specs.Marks.{is_modifier, is_pinned, mark_at, go_on, marks_at, past_marks, marked}
use Rattle.cli_sigs.specs.Grammar as grammar
use Rattle.cli_sigs.specs.Grammar.{SpellsNumber, AreMarks, no_marks, modifier, pinned, SpellsMarked, SpellsVoidOr, void, a_type, SpellsParam, param, sentinel, SpellsTarget}
use Rattle.cli_sigs.proofs.ReaderLaws.{Begins, Reads, bind_ok, ok_is, joined}
use Rattle.cli_sigs.proofs.Numbers.{passing_again, passing_found}

pub is_false : (b : Bool) → (b ≡ true → ⊥) → b ≡ false
is_false true h = absurd (h refl)
is_false false h = refl

pub either : (b : Bool) → (b ≡ true) ⊎ (b ≡ false)
either true = inl refl
either false = inr refl

pub clash : {A : Type 0} (a : Answer A) (left : ℕ) (x : A) → a ≡ Err left → a ≡ Ok x → ⊥
clash a left x e h = cc

abbrev done_some : List ℕ → Answer (Option (List ℕ))
done_some rest = Ok (Some rest)

abbrev done_none : Answer (Option (List ℕ))
done_none = Ok None

-- a reader of types reads nothing that begins as what may stand before a type
pub record IsGuarded (one : List ℕ → Part SigTy) : Type 0 where
  pub required : (rest : List ℕ) → one (0x1F ∷ rest) ≡ refused (0x1F ∷ rest)
  pub optional : (rest : List ℕ) → one (0x20 ∷ rest) ≡ refused (0x20 ∷ rest)
  pub pin : (rest : List ℕ) → one (0x45 ∷ rest) ≡ refused (0x45 ∷ rest)
  pub dots : (rest : List ℕ) → one (0x41 ∷ rest) ≡ refused (0x41 ∷ rest)

module _ (one : List ℕ → Part SigTy) (guarded : IsGuarded one) where
  no_modifier : (code : ℕ) (rest : List ℕ) (p : SigTy × List ℕ) → one (code ∷ rest) ≡ Ok p → is_modifier code ≡ true → ⊥
  no_modifier code rest p e h = elim (either (eqb code 0x1F)) [
    | inl k ↦ let is : code ≡ 0x1F = eqb-true code 0x1F k in clash (one (0x1F ∷ rest)) (length (0x1F ∷ rest)) p (guarded.required rest) (subst (λ (c : ℕ). one (c ∷ rest) ≡ Ok p) is e)
    | inr k ↦ let is : code ≡ 0x20 = eqb-true code 0x20 (rw k at h) in clash (one (0x20 ∷ rest)) (length (0x20 ∷ rest)) p (guarded.optional rest) (subst (λ (c : ℕ). one (c ∷ rest) ≡ Ok p) is e)
  ]

  no_pin : (what : Before) (code : ℕ) (rest : List ℕ) (p : SigTy × List ℕ) → one (code ∷ rest) ≡ Ok p → is_pinned what code ≡ true → ⊥
  no_pin before.Type code rest p e h = absurd (cc)
  no_pin before.Local code rest p e h =
      let is : code ≡ 0x45 = eqb-true code 0x45 h in clash (one (0x45 ∷ rest)) (length (0x45 ∷ rest)) p (guarded.pin rest) (subst (λ (c : ℕ). one (c ∷ rest) ≡ Ok p) is e)

  -- where a type is read no mark stands
  no_mark : (counts : RowCounts) (what : Before) (bytes : List ℕ) (p : SigTy × List ℕ) → one bytes ≡ Ok p → mark_at counts what bytes ≡ Ok None
  unfolding mark_at
  no_mark counts what [] p e = refl
  no_mark counts what (code ∷ rest) p e =
      let m : is_modifier code ≡ false = is_false (is_modifier code) (no_modifier code rest p e) in
      let q : is_pinned what code ≡ false = is_false (is_pinned what code) (no_pin what code rest p e) in
      rw (m, q) refl

module _ (counts : RowCounts) where
  mark_modifier : (what : Before) (code : ℕ) (name rest : List ℕ) (n : ℕ) → is_modifier code ≡ true → SpellsNumber name n → names_row counts n ≡ true → mark_at counts what (code ∷ (name ++ rest)) ≡ Ok (Some rest)
  unfolding mark_at modifier_name_at
  mark_modifier what code name rest n m s h = rw (m, passing_again (names_row counts) name n rest s h) refl

  pin_at : (rest : List ℕ) → mark_at counts before.Local (0x45 ∷ rest) ≡ Ok (Some rest)
  unfolding mark_at
  pin_at rest = refl

  marks_again : (what : Before) (marks : List ℕ) (most : ℕ) (bytes : List ℕ) → AreMarks counts what marks → length marks ≤ most → mark_at counts what bytes ≡ Ok None → marks_at counts what most (marks ++ bytes) ≡ Ok bytes
  unfolding marks_at
  marks_again what marks zero bytes (no_marks w) le end = refl
  marks_again what marks (suc most) bytes (no_marks w) le end = rw end refl
  marks_again what marks zero bytes (modifier w code name others n m s h are) le end = absurd (omega arith)
  marks_again what marks (suc most) bytes (modifier w code name others n m s h are) le end =
      rw (append_assoc name others bytes, mark_modifier w code name (others ++ bytes) n m s h)
      (marks_again w others most bytes are (omega (arith, length-append name others)) end)
  marks_again what marks zero bytes (pinned others are) le end = absurd (omega arith)
  marks_again what marks (suc most) bytes (pinned others are) le end =
      let one_mark : mark_at counts before.Local (0x45 ∷ (others ++ bytes)) ≡ Ok (Some (others ++ bytes)) = pin_at (others ++ bytes) in
      rw one_mark (marks_again before.Local others most bytes are (omega arith) end)

  -- what one mark was
  record IsMark (what : Before) (bytes after : List ℕ) : Type 0 where
    mark : List ℕ
    front : bytes ≡ mark ++ after
    before_others : (others : List ℕ) → AreMarks counts what others → AreMarks counts what (mark ++ others)

  pin_found : (what : Before) (code : ℕ) (rest after : List ℕ) → is_pinned what code ≡ true → rest ≡ after → IsMark what (code ∷ rest) after
  pin_found before.Type code rest after h e = absurd (cc)
  pin_found before.Local code rest after h e =
      let is : code ≡ 0x45 = eqb-true code 0x45 h in
      record { mark = 0x45 ∷ []; front = rw (is, e) refl; before_others = λ others are. pinned others are }

  mark_found : (what : Before) (bytes after : List ℕ) → mark_at counts what bytes ≡ Ok (Some after) → IsMark what bytes after
  unfolding mark_at modifier_name_at
  mark_found what [] after e = absurd (cc)
  mark_found what (code ∷ rest) after e =
      elim (either (is_modifier code)) [
        | inl m ↦
            let b = bind_ok (modifier_name_at counts rest) (λ name. Ok (Some name.1)) (Some after) (rw m at e) in
            let n = passing_found (names_row counts) rest b.0.0 b.0.1 b.1 in
            let after_is : b.0.1 ≡ after = cc (ok_is (Some b.0.1) (Some after) b.2) in
            record {
              mark = code ∷ n.0.text;
              front = ap (λ (r : List ℕ). code ∷ r) (n.0.front ∙ ap (λ (r : List ℕ). n.0.text ++ r) after_is);
              before_others = λ others are. modifier what code n.0.text others b.0.0 m n.0.spelled n.1 are;
            }
        | inr m ↦ elim (either (is_pinned what code)) [
          | inl q ↦ let e1 : done_some rest ≡ Ok (Some after) = rw (m, q) at e in pin_found what code rest after q (cc e1)
          | inr q ↦ absurd (let e1 : done_none ≡ Ok (Some after) = rw (m, q) at e in cc e1)
        ]
      ]

  record AreFound (what : Before) (bytes rest : List ℕ) : Type 0 where
    marks : List ℕ
    are : AreMarks counts what marks
    front : bytes ≡ marks ++ rest

  marks_found : (what : Before) (most : ℕ) (bytes rest : List ℕ) → marks_at counts what most bytes ≡ Ok rest → AreFound what bytes rest
  unfolding marks_at
  marks_found what zero bytes rest e = record { marks = []; are = no_marks what; front = ok_is bytes rest e }
  marks_found what (suc most) bytes rest e =
      let b = bind_ok (mark_at counts what bytes) (go_on bytes (marks_at counts what most)) rest e in
      after_one b.0 b.1 b.2 (λ after g. marks_found what most after rest g)
    where
      after_one : (o : Option (List ℕ)) → mark_at counts what bytes ≡ Ok o → go_on bytes (marks_at counts what most) o ≡ Ok rest
          → ((after : List ℕ) → marks_at counts what most after ≡ Ok rest → AreFound what after rest) → AreFound what bytes rest
      after_one None m g found = record { marks = []; are = no_marks what; front = ok_is bytes rest g }
      after_one (Some after) m g found =
          let first = mark_found what bytes after m in
          let others = found after g in
          record {
            marks = first.mark ++ others.marks;
            are = first.before_others others.marks others.are;
            front = joined bytes first.mark after others.marks rest first.front others.front;
          }

  pub reads_marked : (what : Before) (one : List ℕ → Part SigTy) (Spells : List ℕ → SigTy → Type 0) → IsGuarded one → Reads one Spells → Reads (marked counts what one) (SpellsMarked counts what Spells)
  reads_marked what one Spells guarded reads = record { found = found; again = again }
    where
      found : (bytes : List ℕ) (t : SigTy) (rest : List ℕ) → marked counts what one bytes ≡ Ok (t, rest) → Begins (SpellsMarked counts what Spells) bytes t rest
      found bytes t rest e =
          let b = bind_ok (past_marks counts what bytes) one (t, rest) e in
          let m = marks_found what (length bytes) bytes b.0 b.1 in
          let x = reads.found b.0 t rest b.2 in
          record {
            text = m.marks ++ x.text;
            spelled = grammar.marked m.marks x.text t m.are x.spelled;
            front = joined bytes m.marks b.0 x.text rest m.front x.front;
          }

      again : (text : List ℕ) (t : SigTy) (rest : List ℕ) → SpellsMarked counts what Spells text t → marked counts what one (text ++ rest) ≡ Ok (t, rest)
      again text t rest (grammar.marked marks inner u are s) =
          let h = reads.again inner t rest s in
          let end = no_mark one guarded counts what (inner ++ rest) (t, rest) h in
          rw (append_assoc marks inner rest, marks_again what marks (length (marks ++ (inner ++ rest))) (inner ++ rest) are (omega (arith, length-append marks (inner ++ rest))) end) h

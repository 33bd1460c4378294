-- Whether tokens can number what files give: a count that stops where it is too many tells it as well as the count itself.
use Rattle.std.proofs.Common.{◌≡◌, ℕ, ◌+◌, ◌≤◌, inl, inr, true, [], ◌∷◌, Ok, Err, sym, ap, ◌∙◌, arith}
use Rattle.std.specs.Prelude.{nat_le, ◌&&◌}
use Rattle.std.proofs.lemmas.Bool.{and_parts, leb-true, lt-leb}
use Rattle.clr_base.specs.declared.image_fault.ImageFault.{ImageFault}
use Rattle.clr_base.specs.declared.image_fault.FaultKind.TheVariants.{TooMany}
use Rattle.clr_base.specs.Checks.{check, outcome, first_fault}
use Rattle.clr_base.proofs.Checks.{outcome_of_fault}
use Rattle.cli_tables.specs.Metadata.{Metadata}
use Rattle.image_files.specs.Counts.{most}
use Rattle.image_files.specs.declared.counts.Totals.{Totals}
use Rattle.image_rows.specs.Cells.{rows}
use Rattle.image_files.specs.Counts.{are_few, count_checks, with_file, capped, all_locals}
use Rattle.image_rows.specs.Rows.{token}
use Rattle.image_files.specs.Signatures.{row_sigs, locals_before, sigs_in}
use Rattle.image_files.proofs.Counted.{stops, below, one_of}

-- what are few enough, by themselves
pub record AreBelow (t : Totals) : Type 0 where
  pub defs : t.defs ≤ most
  pub methods : t.methods ≤ most
  pub fields : t.fields ≤ most
  pub sigs : t.sigs ≤ most

pub are_below : (t : Totals) → are_few t ≡ true → AreBelow t
unfolding are_few
are_below t e =
    let one = and_parts (nat_le t.defs most && nat_le t.methods most && nat_le t.fields most) (nat_le t.sigs most) e in
    let two = and_parts (nat_le t.defs most && nat_le t.methods most) (nat_le t.fields most) one.0 in
    let three = and_parts (nat_le t.defs most) (nat_le t.methods most) two.0 in
    record {
      defs = leb-true t.defs most three.0;
      methods = leb-true t.methods most three.1;
      fields = leb-true t.fields most two.1;
      sigs = leb-true t.sigs most one.1;
    }

-- a count that stops
same_test : (b x : ℕ) → nat_le (b + capped x) most ≡ nat_le (b + x) most
same_test b x =
    elim (one_of x) [
      | inl few ↦ ap (λ n. nat_le (b + n) most) (below x few)
      | inr many ↦ lt-leb (b + capped x) most (omega (arith, stops x many)) ∙ sym (lt-leb (b + x) most (omega arith))
    ]

same_count : (b x : ℕ) → b + capped x ≤ most → b + capped x ≡ b + x
same_count b x few =
    elim (one_of x) [
      | inl small ↦ ap (λ n. b + n) (below x small)
      | inr many ↦ absurd (omega (arith, stops x many))
    ]

abbrev pub of_four : ℕ → ℕ → ℕ → ℕ → Totals
of_four d m f s = record { defs = d; methods = m; fields = f; sigs = s }

pub same_four : (d d' m m' f f' s s' : ℕ) → d ≡ d' → m ≡ m' → f ≡ f' → s ≡ s' → of_four d m f s ≡ of_four d' m' f' s'
same_four d d' m m' f f' s s' d_is m_is f_is s_is =
    ap (λ n. of_four n m f s) d_is ∙ ap (λ n. of_four d' n f s) m_is ∙ ap (λ n. of_four d' m' n s) f_is ∙ ap (λ n. of_four d' m' f' n) s_is

module _ (t : Totals) (m : Metadata) (defs methods fields own locals : ℕ) (defs_is : defs ≡ rows m 0x02) (methods_is : methods ≡ rows m 0x06) (fields_is : fields ≡ rows m 0x04)
    (own_is : own ≡ row_sigs m) (locals_is : locals ≡ all_locals m) where
  abbrev counted : Totals
  counted = record { defs = t.defs + defs; methods = t.methods + methods; fields = t.fields + fields; sigs = t.sigs + own + locals }

  pub as_few : are_few counted ≡ are_few (with_file t m)
  unfolding are_few with_file all_locals sigs_in
  as_few =
      let plus : t.sigs + own + locals ≡ t.sigs + row_sigs m + capped (locals_before m (rows m 0x11)) = omega (arith, own_is, locals_is) in
      let whole : t.sigs + row_sigs m + locals_before m (rows m 0x11) ≡ t.sigs + (row_sigs m + locals_before m (rows m 0x11)) = omega arith in
      ap (λ n. nat_le (t.defs + n) most && nat_le (t.methods + methods) most && nat_le (t.fields + fields) most && nat_le (t.sigs + own + locals) most) defs_is
      ∙ ap (λ n. nat_le (t.defs + rows m 0x02) most && nat_le (t.methods + n) most && nat_le (t.fields + fields) most && nat_le (t.sigs + own + locals) most) methods_is
      ∙ ap (λ n. nat_le (t.defs + rows m 0x02) most && nat_le (t.methods + rows m 0x06) most && nat_le (t.fields + n) most && nat_le (t.sigs + own + locals) most) fields_is
      ∙ ap (λ b. nat_le (t.defs + rows m 0x02) most && nat_le (t.methods + rows m 0x06) most && nat_le (t.fields + rows m 0x04) most && b)
      (ap (λ n. nat_le n most) plus ∙ same_test (t.sigs + row_sigs m) (locals_before m (rows m 0x11)) ∙ ap (λ n. nat_le n most) whole)

  pub as_many : are_few counted ≡ true → counted ≡ with_file t m
  unfolding with_file all_locals sigs_in
  as_many few =
      let plus : t.sigs + own + locals ≡ t.sigs + row_sigs m + capped (locals_before m (rows m 0x11)) = omega (arith, own_is, locals_is) in
      let whole : t.sigs + row_sigs m + locals_before m (rows m 0x11) ≡ t.sigs + (row_sigs m + locals_before m (rows m 0x11)) = omega arith in
      let parts = are_below counted few in
      let sigs = same_count (t.sigs + row_sigs m) (locals_before m (rows m 0x11)) (omega (arith, plus, parts.sigs)) in
      same_four _ _ _ _ _ _ _ _ (ap (λ n. t.defs + n) defs_is) (ap (λ n. t.methods + n) methods_is) (ap (λ n. t.fields + n) fields_is) (plus ∙ sigs ∙ whole)

-- the check of the counts
pub count_passes : (w t : Totals) → are_few t ≡ true → are_few t ≡ are_few w → t ≡ w → outcome (count_checks w) w ≡ Ok t
unfolding count_checks
count_passes w t few same is = ap (λ b. outcome (check b TooMany (token 0 1) ∷ []) w) (sym same ∙ few) ∙ ap (λ x. Ok x) (sym is)

pub count_fails : (w t : Totals) (f : ImageFault) → first_fault (check (are_few t) TooMany (token 0 1) ∷ []) ≡ Err f → are_few t ≡ are_few w → outcome (count_checks w) w ≡ Err f
unfolding count_checks
count_fails w t f fails same =
    outcome_of_fault (check (are_few w) TooMany (token 0 1) ∷ []) (tt {0}) w f (ap (λ b. first_fault (check b TooMany (token 0 1) ∷ [])) (sym same) ∙ fails)

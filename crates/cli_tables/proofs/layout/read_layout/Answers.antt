use Rattle.std.proofs.Common.{◌<◌, ◌≤◌, ℕ, suc, length, sym, ◌∙◌, ap, subst, arith}
use Rattle.std.proofs.lemmas.Bool.{le-leb, lt-leb}
use Rattle.std.specs.List.{list_all, range_with_len}
use Rattle.cli_tables.specs.Layout.{are_tables, absent_or_known, is_few, rows_at, start, heap_sizes}
use Rattle.cli_tables.proofs.Conjunctions.{fails_last, fails_before, both_hold}
use Rattle.cli_tables.proofs.layout.read_layout.Goals as goal

pub returns-then-stream-rows_begin-clause-exact : goal.returns-then-stream-rows_begin-clause-exact
unfolding are_tables
returns-then-stream-rows_begin-clause-exact c =
    let short : length c.args.stream.now < rows_at c.args.stream.now = subst (λ (n : ℕ). length c.args.stream.now < n) c.rows_begin.ensures.exact c.if-stream-rows_begin.true in
    fails_before _ _ (fails_before _ _ (fails_last _ _ (lt-leb _ _ short)))

pub returns-then-not-few_rows-clause-exact : goal.returns-then-not-few_rows-clause-exact
unfolding are_tables
returns-then-not-few_rows-clause-exact c =
    let many = ap (list_all is_few) (sym c.read_counts-counts.ensures) ∙ sym c.few_rows.ensures ∙ c.if-not-few_rows.true in
    fails_before _ _ (fails_last _ _ many)

pub returns-then-stream-end-clause-exact : goal.returns-then-stream-end-clause-exact
unfolding are_tables
returns-then-stream-end-clause-exact c =
    let short : length c.args.stream.now < start c.args.stream.now 45 = subst (λ (n : ℕ). length c.args.stream.now < n) c.place_tables-end.ensures.end c.if-stream-end.true in
    fails_last _ _ (lt-leb _ _ short)

pub returns-clause-exact : goal.returns-clause-exact
unfolding are_tables
returns-clause-exact c =
    let stream = c.args.stream.now in
    let header : 24 ≤ length stream = omega arith in
    let sizes : suc (heap_sizes stream) ≤ 8 = subst (λ (n : ℕ). suc n ≤ 8) c.heap_sizes.ensures (omega arith) in
    let known = sym c.if-not-all_known.false ∙ c.all_known.ensures ∙ ap (λ (m : ℕ). list_all (absent_or_known m) (range_with_len 0 64)) c.valid_mask-valid.ensures in
    let counts : rows_at stream ≤ length stream = subst (λ (n : ℕ). n ≤ length stream) c.rows_begin.ensures.exact (omega arith) in
    let few = ap (list_all is_few) (sym c.read_counts-counts.ensures) ∙ sym c.few_rows.ensures ∙ c.if-not-few_rows.false in
    let rows : start stream 45 ≤ length stream = subst (λ (n : ℕ). n ≤ length stream) c.place_tables-end.ensures.end (omega arith) in
    both_hold _ _ (both_hold _ _ (both_hold _ _ (both_hold _ _ (both_hold _ _ (sym (le-leb _ _ header)) (sym (le-leb _ _ sizes))) known)
    (sym (le-leb _ _ counts))) (sym few)) (sym (le-leb _ _ rows))

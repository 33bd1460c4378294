use Rattle.std.proofs.Common.{◌≡◌, ℕ, ◌*◌, ◌^◌, ◌≤◌, refl, ◌∙◌, ap, ap₂, arith, nat_lt}
use Rattle.std.proofs.Math.Nat.{mul-le-mul_right}
use Rattle.cli_tables.specs.Layout.{one_if}
use Rattle.image_write.specs.Drafts.{rows, has_rows, row_len}
use Rattle.image_write.specs.Lengths.{tables_len}
use Rattle.image_write.proofs.Sizes.{present_none, present_more, rows_len_none, rows_len_more, byte_is, one_small}
use Rattle.image_write.proofs.layout.tables_len.Goals as goal

pub loop-t-init : goal.loop-t-init
loop-t-init c = record { present = present_none _; few = omega arith; rows = rows_len_none _; small = omega arith }

pub loop-t-preserved : goal.loop-t-preserved
unfolding row_len
loop-t-preserved c =
    let draft = c.args.draft.now in
    let t = c.loop-t.t in
    let n = c.row_count-rows.result in
    let present : c.from-present.result ≡ one_if (has_rows draft t) =
    c.from-present.ensures ∙ byte_is _ ∙ ap (λ (m : ℕ). one_if (nat_lt 0 m)) c.row_count-rows.ensures in
    let wide : c.row_len.result ≡ row_len draft t = cc in
    let area : n * c.row_len.result ≡ rows draft t * row_len draft t = ap₂ (λ (a b : ℕ). a * b) c.row_count-rows.ensures wide in
    let few = c.requires.few t c.loop-t-test.true in
    let most : n * c.row_len.result ≤ 2 ^ 31 * c.row_len.result = mul-le-mul_right c.row_len.result (omega (arith, c.row_count-rows.ensures, few)) in
    record {
      present = omega (arith, present, present_more draft t, c.loop-t.invariant.present);
      few = omega (arith, present, one_small (has_rows draft t), c.loop-t.invariant.few);
      rows = omega (arith, area, rows_len_more draft t, c.loop-t.invariant.rows);
      small = omega (arith, most, c.row_len.ensures.small, c.loop-t.invariant.small);
    }

pub returns-clause-exact : goal.returns-clause-exact
unfolding tables_len
returns-clause-exact c = let done : c.loop-t.t ≡ 45 = omega arith in rw (c.loop-t.invariant.present, c.loop-t.invariant.rows, done) refl

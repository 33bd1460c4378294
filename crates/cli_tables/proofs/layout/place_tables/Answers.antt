use Rattle.std.proofs.Common.{◌≡◌, ℕ, ◌*◌, ◌≤◌, List, true, refl, sym, ◌∙◌, ap₂, subst, arith, length-set}
use Rattle.std.proofs.Math.Nat.{mul-le-mul_right}
use Rattle.std.specs.List.{list_all}
use Rattle.cli_tables.specs.Layout.{row_count, row_counts, heap_sizes, row_width, is_few}
use Rattle.cli_tables.proofs.Counts.{few_at}
use Rattle.cli_tables.proofs.Placing.{start_first, start_next, places_more}
use Rattle.cli_tables.proofs.layout.place_tables.Goals as goal

pub loop-t-init : goal.loop-t-init
loop-t-init c = record {
  begins = c.rows_begin-start.ensures.exact ∙ sym (start_first c.args.stream.now);
  small = omega (arith, c.rows_begin-start.ensures.near);
  room = refl;
  placed = λ k less d. absurd (omega arith);
}

pub loop-t-preserved : goal.loop-t-preserved
loop-t-preserved c =
    let stream = c.args.stream.now in
    let place = c.place_table-place.result in
    let here = c.place_table-place.ensures.place in
    let next = start_next stream c.loop-t.t in
    let grown : place.rows * place.row_width ≡ row_count stream c.loop-t.t * row_width (row_counts stream) (heap_sizes stream) c.loop-t.t =
    ap₂ (λ (a b : ℕ). a * b) here.rows here.wide in
    let few : row_count stream c.loop-t.t ≤ 16777215 =
    few_at stream c.loop-t.t c.loop-t-test.true (subst (λ (l : List ℕ). list_all is_few l ≡ true) c.requires.counts c.requires.few) in
    let rows_few : place.rows ≤ 16777215 = rw here.rows few in
    let area : place.rows * place.row_width ≤ 16777215 * place.row_width = mul-le-mul_right place.row_width rows_few in
    record {
      begins = omega (arith, grown, next, c.loop-t.invariant.begins);
      small = omega (arith, area, c.place_table-place.ensures.small, c.loop-t.invariant.small);
      room = simp length-set c.loop-t.invariant.room;
      placed = places_more stream c.loop-t.t c.loop-t.places place (omega arith) here c.loop-t.invariant.placed;
    }

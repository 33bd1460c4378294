use Rattle.std.proofs.Common.{◌≡◌, ℕ, ◌+◌, [], ◌∷◌, ◌++◌, ◌∙◌, sym, ap, ap₂, below_none, below_more, arith}
use Rattle.image_rows.specs.Cells.{rows}
use Rattle.type_names.specs.Resolution.{first_def}
use Rattle.type_names.proofs.Firsts.{first_none, first_more, firsts_more}
use Rattle.type_names.proofs.def_numbers.DefNumbers.new.Goals as goal

pub loop-tables-init : goal.loop-tables-init
loop-tables-init c = record {
  next = sym (first_none c.args.files.now);
  few = omega arith;
  small = below_more _ 0 (below_none _) (omega (arith, first_none c.args.files.now));
  firsts = c.in_ok-push.ensures.ok ∙ ap₂ (λ xs (x : ℕ). xs ++ x ∷ []) c.new-firsts.ensures (sym (first_none c.args.files.now));
}

pub loop-tables-preserved : goal.loop-tables-preserved
loop-tables-preserved c =
    let i = c.loop-tables.tables-index in
    let more = first_more c.args.files.now i c.tables-item.result (omega arith) in
    let next : c.loop-tables.next + c.row_count-next.result ≡ first_def c.args.files.now (i + 1) =
    ap₂ ◌+◌ c.loop-tables.invariant.next (c.row_count-next.ensures.exact ∙ ap (λ m. rows m 0x02) c.tables-item.is) ∙ sym more in
    let before = c.loop-tables.invariant.few in
    let rows_few = c.row_count-next.ensures.few in
    record {
      next = next;
      few = omega arith;
      small = below_more _ (i + 1) c.loop-tables.invariant.small (omega arith);
      firsts = firsts_more c.args.files.now i _ c.loop-tables.firsts _ c.loop-tables.invariant.firsts next c.in_ok-push-2.ensures.ok;
    }

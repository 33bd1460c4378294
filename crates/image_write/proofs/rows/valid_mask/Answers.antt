use Rattle.std.proofs.Common.{◌<◌, ◌≤◌, arith, lit<}
use Rattle.std.proofs.lemmas.Bool.{le-leb, lt-leb}
use Rattle.image_write.specs.Drafts.{rows}
use Rattle.image_write.proofs.Powers.{pow_next, shifted}
use Rattle.image_write.proofs.Sizes.{mask_none, mask_more_yes, mask_more_no}
use Rattle.image_write.proofs.rows.valid_mask.Goals as goal
use Rattle.image_write.proofs.rows.valid_mask.Goals.{then-row_count-gt0, else-row_count-gt0}

pub loop-t-init : goal.loop-t-init
loop-t-init c = record { so_far = mask_none _; small = lit< tt }

pub loop-t-preserved : goal.loop-t-preserved
loop-t-preserved c =
    let draft = c.args.draft.now in
    let t = c.loop-t.t in
    let next = pow_next t in
    let bit = shifted t c.loop-t-test.true in
    let so_far = c.loop-t.invariant.so_far in
    let small = c.loop-t.invariant.small in
    elim c.if-row_count-gt0.branch [
      | then-row_count-gt0 w ↦
          let some : 1 ≤ rows draft t = omega (arith, c.row_count.ensures, w.if-row_count-gt0.true) in
          let more = mask_more_yes draft t (le-leb 1 (rows draft t) some) in
          record { so_far = omega (arith, w.mask-is, bit, more, so_far); small = omega (arith, w.mask-is, bit, next, small) }
      | else-row_count-gt0 w ↦
          let none : rows draft t < 1 = omega (arith, c.row_count.ensures, w.if-row_count-gt0.false) in
          let more = mask_more_no draft t (lt-leb 1 (rows draft t) none) in
          record { so_far = omega (arith, w.mask-is, more, so_far); small = omega (arith, w.mask-is, next, small) }
    ]

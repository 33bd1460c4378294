use Rattle.std.proofs.Common.{sym}
use Rattle.std.proofs.lemmas.List.{append-nil}
use Rattle.image_write.specs.Image.{row_bytes}
use Rattle.image_write.proofs.Appending.{joined_none, joined_more, one_more}
use Rattle.image_write.proofs.rows.push_table.Goals as goal

pub loop-row-init : goal.loop-row-init
loop-row-init c = rw (joined_none (row_bytes c.args.draft.now c.args.table)) (sym (append-nil _))

pub loop-row-preserved : goal.loop-row-preserved
loop-row-preserved c = one_more _ _ _ _ _ _ c.loop-row.invariant c.in_ok-push_row.ensures (joined_more (row_bytes c.args.draft.now c.args.table) c.loop-row.row)

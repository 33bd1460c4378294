use Rattle.std.proofs.Common.{sym}
use Rattle.std.proofs.lemmas.List.{append-nil}
use Rattle.image_write.specs.Image.{table_bytes}
use Rattle.image_write.proofs.Appending.{joined_none, joined_more, one_more}
use Rattle.image_write.proofs.rows.push_rows.Goals as goal

pub loop-t-init : goal.loop-t-init
loop-t-init c = rw (joined_none (table_bytes c.args.draft.now)) (sym (append-nil _))

pub loop-t-preserved : goal.loop-t-preserved
loop-t-preserved c = one_more _ _ _ _ _ _ c.loop-t.invariant c.in_ok-push_table.ensures (joined_more (table_bytes c.args.draft.now) c.loop-t.t)

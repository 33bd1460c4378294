use Rattle.std.proofs.Common.{sym, ◌∙◌}
use Rattle.image_files.proofs.Counted.{told_there, not_there}
use Rattle.image_files.proofs.counts.local_count.Goals as goal

pub returns-then-begins : goal.returns-then-begins
returns-then-begins c =
    c.min.ensures ∙ told_there c.args.tables.now c.args.index c.told_locals-told.result c.blob_by-blob.result.now c.blob_by-blob.ensures.exact (sym c.begins_with-begins.ensures ∙ c.if-begins.true) c.requires
    c.told_locals-told.ensures.listed

pub returns-else-begins : goal.returns-else-begins
returns-else-begins c = not_there c.args.tables.now c.args.index c.blob_by-blob.result.now c.blob_by-blob.ensures.exact (sym c.begins_with-begins.ensures ∙ c.if-begins.false)

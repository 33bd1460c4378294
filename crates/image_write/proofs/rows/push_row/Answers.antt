use Rattle.std.proofs.Common.{◌≡◌, ℕ, List, ◌++◌, map, get_or, sym, ◌∙◌, ap₂}
use Rattle.std.proofs.lemmas.List.{append-nil}
use Rattle.image_write.specs.Image.{cell_bytes}
use Rattle.image_write.specs.Drafts.{column_width}
use Rattle.image_write.specs.Pieces.{bytes_of}
use Rattle.cli_tables.specs.Layout.{width}
use Rattle.cli_tables.specs.Schema.{columns}
use Rattle.image_write.proofs.Appending.{joined_none, joined_more, one_more}
use Rattle.image_write.proofs.rows.push_row.Goals as goal

pub loop-c-init : goal.loop-c-init
loop-c-init c = rw (joined_none (cell_bytes c.args.draft.now c.args.table c.args.row)) (sym (append-nil _))

pub loop-c-preserved : goal.loop-c-preserved
unfolding cell_bytes column_width
loop-c-preserved c =
    let draft = c.args.draft.now in
    let t = c.args.table in
    let wide : c.column_width-width.result ≡ column_width draft t c.loop-c.c =
    c.column_width-width.ensures.exact
    ∙ ap₂ (λ (counts : List ℕ) (bits : ℕ). get_or (map (width counts bits) (columns t)) c.loop-c.c 0) c.requires.layout.counts c.requires.layout.heap_bits in
    let pushed =
    c.in_ok-push_number.ensures
    ∙ ap₂ (λ (w n : ℕ). c.loop-c.out.items ++ bytes_of w n) wide c.number_of.ensures in
    one_more _ _ _ _ _ _ c.loop-c.invariant pushed (joined_more (cell_bytes draft t c.args.row) c.loop-c.c)

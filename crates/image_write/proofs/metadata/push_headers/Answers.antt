use Rattle.std.proofs.Common.{ℕ, List, length, ap, ◌∙◌, arith}
use Rattle.image_write.specs.Lengths.{metadata_len, filled_len}
use Rattle.image_write.proofs.Shortness.{near_tables}
use Rattle.image_write.proofs.metadata.push_headers.Goals as goal

pub rounded-requires : goal.rounded-requires
rounded-requires c = let near = near_tables c.args.draft.now c.args.layout.now c.requires in omega arith

pub push_stream_headers-requires : goal.push_stream_headers-requires
unfolding metadata_len
push_stream_headers-requires c =
    let users = c.filled_len.ensures.exact ∙ ap (λ (xs : List ℕ). filled_len (length xs)) c.as_slice-2.ensures in
    let blobs = c.filled_len-2.ensures.exact ∙ ap (λ (xs : List ℕ). filled_len (length xs)) c.as_slice-4.ensures in
    let strings = ap (λ (xs : List ℕ). length xs) c.as_slice.ensures in
    let guids = ap (λ (xs : List ℕ). length xs) c.as_slice-3.ensures in
    omega (arith, users, blobs, strings, guids, c.rounded.ensures, c.rounded-2.ensures, c.rounded-3.ensures, c.requires.tables_len, c.requires.short)

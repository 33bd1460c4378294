use Rattle.std.proofs.Common.{◌≡◌, ℕ, ◌-◌, ◌++◌, length, ap, sym, ◌∙◌, arith}
use Rattle.image_write.specs.Image.{tables}
use Rattle.image_write.specs.Pieces.{padded, rounded, zeros}
use Rattle.image_write.proofs.Appending.{joins, ok_gives}
use Rattle.image_write.proofs.Shortness.{near_tables}
use Rattle.image_write.proofs.WrittenLengths.{length-tables}
use Rattle.image_write.proofs.metadata.push_padded_tables.Goals as goal

pub rounded-requires : goal.rounded-requires
rounded-requires c = let near = near_tables c.args.draft.now c.args.layout.now c.requires in omega arith

pub returns : goal.returns
unfolding padded
returns c =
    let content = tables c.args.draft.now in
    let now = c.push_tables.new.out.items in
    let len : c.args.layout.now.tables_len ≡ length content = c.requires.tables_len ∙ sym (length-tables c.args.draft.now) in
    let pushed : now ≡ c.args.out.now.items ++ content = c.in_ok-push_tables.ensures in
    let count = ap (λ (n : ℕ). n - c.args.layout.now.tables_len) c.rounded.ensures ∙ ap (λ (n : ℕ). rounded n - n) len in
    ok_gives c.push_zeros.result c.push_zeros.ensures
    (λ e. joins c.args.out.now.items content (zeros (rounded (length content) - length content)) now _ pushed (e ∙ ap (λ (n : ℕ). now ++ zeros n) count))

use Rattle.std.proofs.Common.{◌≡◌, ℕ, List, ◌++◌, take, is_ok, if◌then◌else◌, ap, ◌∙◌}
use Rattle.std.specs.Int.{bytes_low_first}
use Rattle.image_write.specs.Pieces.{bytes_of}
use Rattle.image_write.proofs.Appending.{take_low, ok_pushed}
use Rattle.image_write.proofs.pieces.push_number.Goals as goal

pub returns : goal.returns
unfolding bytes_of
returns c =
    let w = c.args.width in
    let old = c.args.out.now.items in
    let r = c.extend_from_slice.result in
    let digits = c.to_le_bytes-digits.result in
    let low : take w digits ≡ bytes_low_first 0 w c.args.value =
    ap (λ (xs : List ℕ). take w xs) c.to_le_bytes-digits.ensures ∙ take_low w 8 0 c.args.value c.requires in
    ok_pushed r _ old (bytes_of w c.args.value)
    (c.extend_from_slice.ensures.items ∙ ap (λ (xs : List ℕ). if is_ok r then old ++ xs else old) low)

use Rattle.std.proofs.Common.{sym, ap, ◌++◌, ◌∙◌, ◌+◌, ℕ, List, drop, get_or}
use Rattle.std.proofs.lemmas.List.{at_drop_more, at_drop_all}
use Rattle.image_write.specs.Pieces.{bytes_of, zeros, structure, field}
use Rattle.image_write.specs.declared.pieces.Field.{Field}
use Rattle.image_write.proofs.Appending.{structure_step, structure_end, ok_gives}
use Rattle.image_write.proofs.pieces.push_structure.Goals as goal

pub loop-field-preserved : goal.loop-field-preserved
loop-field-preserved c =
    let fields = c.args.fields.now in
    let i = c.loop-field.field-index in
    let at = c.loop-field.at in
    let len = c.args.len in
    let now = c.loop-field.out.items in
    let f : Field = get_or fields i (field 0 0 0) in
    let rest = drop (i + 1) fields in
    let behind : List ℕ = structure (f.at + f.width) len rest in
    let step = at_drop_more (structure at len) fields i (field 0 0 0) c.loop-field-test.true in
    let zeros_pushed = c.in_ok-push_zeros.ensures ∙ ap (λ (n : ℕ). now ++ zeros n) c.saturating_sub.ensures in
    ap (λ (z : List ℕ). z ++ behind) (c.in_ok-push_number.ensures ∙ ap (λ (z : List ℕ). z ++ bytes_of f.width f.value) zeros_pushed)
    ∙ sym (structure_step at len f rest now)
    ∙ ap (λ (z : List ℕ). now ++ z) (sym step)
    ∙ c.loop-field.invariant

pub returns : goal.returns
returns c =
    let now = c.loop-field.out.items in
    let done = at_drop_all (structure c.loop-field.at c.args.len) c.args.fields.now c.loop-field.field-index c.loop-field-test.false in
    ok_gives c.push_zeros-2.result c.push_zeros-2.ensures
    (λ e.
    e
    ∙ ap (λ (n : ℕ). now ++ zeros n) c.saturating_sub-2.ensures
    ∙ ap (λ (z : List ℕ). now ++ z) (sym (structure_end c.loop-field.at c.args.len))
    ∙ ap (λ (z : List ℕ). now ++ z) (sym done)
    ∙ c.loop-field.invariant)

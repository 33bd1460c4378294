use Rattle.std.proofs.Common.{◌+◌, ◌++◌, [], ◌∷◌, ◌∙◌, sym, ap₂, arith}
use Rattle.std.proofs.lemmas.List.FromFn.{map-range_with_len_more}
use Rattle.image_rows.specs.TypeNames.{full_name}
use Rattle.image_rows.proofs.Enclosing.{enclosing_inside, enclosing_read}
use Rattle.image_rows.proofs.definition_names.full_names.Goals as goal

pub bounds-as_slice-row : goal.bounds-as_slice-row
bounds-as_slice-row c = enclosing_inside c.args.tables.now (c.loop-row.row + 1) _ (c.as_slice.ensures ∙ c.in_ok-enclosing.ensures) (omega arith)

pub full_name-requires-clause-outer : goal.full_name-requires-clause-outer
full_name-requires-clause-outer c = enclosing_read c.args.tables.now (c.loop-row.row + 1) 0 _ (c.as_slice.ensures ∙ c.in_ok-enclosing.ensures) (omega arith)

pub loop-row-preserved : goal.loop-row-preserved
loop-row-preserved c =
    c.in_ok-push.ensures.ok ∙ ap₂ (λ xs x. xs ++ x ∷ []) c.loop-row.invariant c.in_ok-name.ensures
    ∙ sym (map-range_with_len_more (full_name c.args.tables.now) 1 c.loop-row.row (c.loop-row.row + 1) (omega arith))

use Rattle.std.proofs.Common.{◌≡◌, ℕ, List, Option, ◌++◌, ◌∷◌, [], map, ap, ap₂, sym, ◌∙◌, arith}
use Rattle.std.specs.List.{range_with_len}
use Rattle.type_names.specs.declared.resolution.DefPlace.{DefPlace}
use Rattle.image_rows.specs.Cells.{rows}
use Rattle.type_names.specs.Resolution.{resolved}
use Rattle.clr_base.proofs.Ranges.{rows_more}
use Rattle.type_names.proofs.resolve.file_places.Goals as goal

pub loop-row-preserved : goal.loop-row-preserved
unfolding resolved
loop-row-preserved c =
    c.in_ok-push.ensures.ok
    ∙ ap₂ (λ (xs : List (Option DefPlace)) (x : Option DefPlace). xs ++ x ∷ []) c.loop-row.invariant c.resolved_within.ensures
    ∙ sym (rows_more (resolved c.args.types.now.files.now c.args.file c.args.tables.now) c.loop-row.row)

pub returns : goal.returns
returns c =
    let all : c.loop-row.row ≡ rows c.args.tables.now 0x01 = omega (arith, c.row_count-row-end.ensures.exact) in
    c.loop-row.invariant ∙ ap (λ (n : ℕ). map (resolved c.args.types.now.files.now c.args.file c.args.tables.now) (range_with_len 1 n)) all

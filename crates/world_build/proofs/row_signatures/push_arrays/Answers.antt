use Rattle.std.proofs.Common.{◌∙◌, Some, ap, arith}
use Rattle.type_tree.specs.declared.tree.Key.TheVariants as key
use Rattle.type_tree.specs.declared.tree.Ty.TheVariants as ty
use Rattle.world_build.specs.Signatures.{types_in}
use Rattle.type_members.specs.Trees.{type_at_row}
use Rattle.world_build.proofs.Pushed.{pushed, all_pushed}
use Rattle.world_build.proofs.row_signatures.push_arrays.Goals as goal

pub loop-row-preserved : goal.loop-row-preserved
loop-row-preserved c =
    pushed (λ row. key.Tree (ty.Array (type_at_row c.args.types.now c.args.tables.now (Some (record { table = c.args.table; row = row }))))) c.loop-row.row _ _ _ _ c.loop-row.invariant c.in_ok-push.ensures.ok
    (ap (λ t. key.Tree (ty.Array t)) (c.in_ok-new.ensures ∙ c.in_ok-t.ensures))

pub returns : goal.returns
unfolding types_in
returns c =
    all_pushed (λ t. key.Tree (ty.Array t)) (λ row. type_at_row c.args.types.now c.args.tables.now (Some (record { table = c.args.table; row = row })))
    c.loop-row.row _ _ _ c.loop-row.invariant (omega arith)

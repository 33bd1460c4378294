use Rattle.std.proofs.Common.{◌∙◌, false, get_or, ap, arith}
use Rattle.type_tree.specs.declared.tree.Key.TheVariants as key
use Rattle.image_rows.specs.Cells.{owner_of, rows}
use Rattle.world_build.specs.References.{owner_type}
use Rattle.world_build.specs.Signatures.{owners_in}
use Rattle.type_members.specs.Trees.{def_type}
use Rattle.type_members.proofs.MemberLists.{row_within, row_given}
use Rattle.world_build.proofs.Pushed.{pushed, all_pushed}
use Rattle.world_build.proofs.row_signatures.push_owners.Goals as goal

pub bounds-as_slice-row : goal.bounds-as_slice-row
bounds-as_slice-row c =
    let m = c.args.tables.now in
    row_within (owner_of m c.args.column c.args.table) c.loop-row.row (rows m c.args.table) c.in_ok-owners.owners c.as_slice.result.now c.as_slice.ensures c.in_ok-owners.ensures (omega arith)

pub loop-row-preserved : goal.loop-row-preserved
loop-row-preserved c =
    let m = c.args.tables.now in
    let given = row_given (owner_of m c.args.column c.args.table) c.loop-row.row (rows m c.args.table) c.in_ok-owners.owners c.as_slice.result.now c.as_slice.ensures c.in_ok-owners.ensures (omega arith) in
    pushed (λ row. key.Tree (owner_type c.args.types.now (owner_of m c.args.column c.args.table row))) c.loop-row.row _ _ _ _ c.loop-row.invariant c.in_ok-push.ensures.ok
    (ap key.Tree
    (c.def_type.ensures ∙ ap (λ args. def_type c.args.types.now args false (get_or c.as_slice.result.now c.loop-row.row 0)) c.new.ensures
    ∙ ap (owner_type c.args.types.now) given))

pub returns : goal.returns
unfolding owners_in
returns c =
    all_pushed key.Tree (λ row. owner_type c.args.types.now (owner_of c.args.tables.now c.args.column c.args.table row))
    c.loop-row.row _ _ _ c.loop-row.invariant (omega arith)

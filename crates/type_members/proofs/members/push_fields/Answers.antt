use Rattle.std.proofs.Common.{◌+◌, ◌∙◌, ap, arith}
use Rattle.image_rows.specs.Cells.{owner_of, rows}
use Rattle.type_members.specs.Members.{field_of}
use Rattle.type_members.proofs.MemberLists.{row_within, row_given}
use Rattle.type_members.proofs.MemberParts.{push_more}
use Rattle.type_members.proofs.members.push_fields.Goals as goal

pub bounds-as_slice-row : goal.bounds-as_slice-row
bounds-as_slice-row c =
    let m = c.args.tables.now in
    row_within (owner_of m 4 0x04) c.loop-row.row (rows m 0x04) c.in_ok-owners.owners c.as_slice.result.now c.as_slice.ensures c.in_ok-owners.ensures (omega arith)

pub loop-row-preserved : goal.loop-row-preserved
loop-row-preserved c =
    let m = c.args.tables.now in
    let given = row_given (owner_of m 4 0x04) c.loop-row.row (rows m 0x04) c.in_ok-owners.owners c.as_slice.result.now c.as_slice.ensures c.in_ok-owners.ensures (omega arith) in
    push_more (λ row. field_of c.args.names.now m (owner_of m 4 0x04 row) row) c.loop-row.row c.args.fields.now _ _ _ c.loop-row.invariant c.in_ok-push.ensures.ok
    (c.in_ok-field_of.ensures ∙ ap (λ def. field_of c.args.names.now m def (c.loop-row.row + 1)) given)

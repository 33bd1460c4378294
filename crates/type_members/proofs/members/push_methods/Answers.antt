use Rattle.std.proofs.Common.{◌+◌, ◌∙◌, ap, arith}
use Rattle.image_rows.specs.Cells.{owner_of, rows}
use Rattle.type_members.specs.Members.{method_of, method_sig}
use Rattle.type_members.proofs.MemberLists.{row_within, row_given}
use Rattle.type_members.proofs.MemberParts.{push_more}
use Rattle.type_members.proofs.members.push_methods.Goals as goal

pub bounds-as_slice-row : goal.bounds-as_slice-row
bounds-as_slice-row c =
    let m = c.args.tables.now in
    row_within (owner_of m 5 0x06) c.loop-row.row (rows m 0x06) c.in_ok-owners.owners c.as_slice.result.now c.as_slice.ensures c.in_ok-owners.ensures (omega arith)

pub loop-row-preserved : goal.loop-row-preserved
loop-row-preserved c =
    let m = c.args.tables.now in
    let given = row_given (owner_of m 5 0x06) c.loop-row.row (rows m 0x06) c.in_ok-owners.owners c.as_slice.result.now c.as_slice.ensures c.in_ok-owners.ensures (omega arith) in
    record {
      methods =
          push_more (λ row. method_of c.args.names.now m (owner_of m 5 0x06 row) row) c.loop-row.row c.args.methods.now _ _ _ c.loop-row.invariant.methods c.in_ok-push.ensures.ok
          (c.in_ok-method_of.ensures ∙ ap (λ def. method_of c.args.names.now m def (c.loop-row.row + 1)) given);
      generics =
          push_more (λ row. (method_sig m row).generic) c.loop-row.row c.args.generics.now _ _ _ c.loop-row.invariant.generics c.in_ok-push-2.ensures.ok
          (ap (λ sig. sig.generic) c.in_ok-sig.ensures);
    }

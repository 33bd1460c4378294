use Rattle.std.proofs.Common.{sym, ap, ◌∙◌, arith}
use Rattle.std.specs.Option.{option_map}
use Rattle.type_members.specs.MemberIndexes.{has_type}
use Rattle.type_members.specs.MemberTable.{field_id}
use Rattle.type_members.proofs.FirstFound.{found_here, none_more, none_at_all}
use Rattle.type_members.proofs.member_index.first_field.Goals as goal

pub returns-then-has_type : goal.returns-then-has_type
returns-then-has_type c =
    let p = has_type c.args.members.now c.args.ty.now in
    ap (option_map field_id)
    (sym (found_here p c.args.fields.now c.loop-field.field-index (omega arith) c.loop-field.invariant (sym c.has_type.ensures ∙ c.if-has_type.true)))

pub loop-field-preserved : goal.loop-field-preserved
loop-field-preserved c =
    none_more (has_type c.args.members.now c.args.ty.now) c.args.fields.now c.loop-field.field-index (omega arith) c.loop-field.invariant
    (sym c.has_type.ensures ∙ c.if-has_type.false)

pub returns : goal.returns
returns c =
    let p = has_type c.args.members.now c.args.ty.now in
    ap (option_map field_id) (sym (none_at_all p c.args.fields.now c.loop-field.field-index (omega arith) c.loop-field.invariant))

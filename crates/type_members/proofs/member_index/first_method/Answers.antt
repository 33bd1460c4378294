use Rattle.std.proofs.Common.{sym, ap, ◌∙◌, arith}
use Rattle.std.specs.Option.{option_map}
use Rattle.type_members.specs.MemberIndexes.{is_wanted}
use Rattle.type_members.specs.MemberTable.{method_id}
use Rattle.type_members.proofs.FirstFound.{found_here, none_more, none_at_all}
use Rattle.type_members.proofs.member_index.first_method.Goals as goal

pub returns-then-is_wanted : goal.returns-then-is_wanted
returns-then-is_wanted c =
    let p = is_wanted c.args.members.now c.args.wanted.now in
    ap (option_map method_id)
    (sym (found_here p c.args.methods.now c.loop-method.method-index (omega arith) c.loop-method.invariant (sym c.is_wanted.ensures ∙ c.if-is_wanted.true)))

pub loop-method-preserved : goal.loop-method-preserved
loop-method-preserved c =
    none_more (is_wanted c.args.members.now c.args.wanted.now) c.args.methods.now c.loop-method.method-index (omega arith) c.loop-method.invariant
    (sym c.is_wanted.ensures ∙ c.if-is_wanted.false)

pub returns : goal.returns
returns c =
    let p = is_wanted c.args.members.now c.args.wanted.now in
    ap (option_map method_id) (sym (none_at_all p c.args.methods.now c.loop-method.method-index (omega arith) c.loop-method.invariant))

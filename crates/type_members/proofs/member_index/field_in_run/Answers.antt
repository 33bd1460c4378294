use Rattle.std.proofs.Common.{◌<◌, ◌≤◌, ℕ, Some, length, sym, ap, ◌∙◌, arith}
use Rattle.std.specs.List.{range_with_len}
use Rattle.std.specs.Option.{option_map}
use Rattle.std.proofs.lemmas.List.FromFn.{get_or-range_with_len, length-range_with_len}
use Rattle.type_members.specs.MemberTable.{field_id, is_field}
use Rattle.type_members.proofs.FirstFound.{found_here, none_more, none_at_all}
use Rattle.type_members.proofs.member_index.field_in_run.Goals as goal

pub returns-then-is_field : goal.returns-then-is_field
returns-then-is_field c =
    let p = is_field c.args.members.now c.args.name c.args.ty.now in
    let xs = range_with_len c.args.first c.args.count in
    let within : c.loop-k.k < length xs = omega (arith, length-range_with_len c.args.first c.args.count) in
    let here = get_or-range_with_len c.args.first c.args.count c.loop-k.k 0 (omega arith) in
    ap (λ (n : ℕ). Some (field_id n)) (sym here)
    ∙ ap (option_map field_id) (sym (found_here p xs c.loop-k.k within c.loop-k.invariant (ap p here ∙ sym c.is_field.ensures.exact ∙ c.if-is_field.true)))

pub loop-k-preserved : goal.loop-k-preserved
loop-k-preserved c =
    let p = is_field c.args.members.now c.args.name c.args.ty.now in
    let xs = range_with_len c.args.first c.args.count in
    let within : c.loop-k.k < length xs = omega (arith, length-range_with_len c.args.first c.args.count) in
    let here = get_or-range_with_len c.args.first c.args.count c.loop-k.k 0 (omega arith) in
    none_more p xs c.loop-k.k within c.loop-k.invariant (ap p here ∙ sym c.is_field.ensures.exact ∙ c.if-is_field.false)

pub returns : goal.returns
returns c =
    let p = is_field c.args.members.now c.args.name c.args.ty.now in
    let xs = range_with_len c.args.first c.args.count in
    let past : length xs ≤ c.loop-k.k = omega (arith, length-range_with_len c.args.first c.args.count) in
    ap (option_map field_id) (sym (none_at_all p xs c.loop-k.k past c.loop-k.invariant))

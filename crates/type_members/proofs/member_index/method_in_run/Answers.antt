use Rattle.std.proofs.Common.{◌<◌, ◌≤◌, ℕ, Some, length, sym, ap, ◌∙◌, arith}
use Rattle.std.specs.List.{range_with_len}
use Rattle.std.specs.Option.{option_map}
use Rattle.std.proofs.lemmas.List.FromFn.{get_or-range_with_len, length-range_with_len}
use Rattle.type_members.specs.MemberTable.{method_id, is_method}
use Rattle.type_members.proofs.FirstFound.{found_here, none_more, none_at_all}
use Rattle.type_members.proofs.member_index.method_in_run.Goals as goal

pub returns-then-is_method : goal.returns-then-is_method
returns-then-is_method c =
    let p = is_method c.args.members.now c.args.name c.args.wanted.now in
    let xs = range_with_len c.args.first c.args.count in
    let within : c.loop-k.k < length xs = omega (arith, length-range_with_len c.args.first c.args.count) in
    let here = get_or-range_with_len c.args.first c.args.count c.loop-k.k 0 (omega arith) in
    ap (λ (n : ℕ). Some (method_id n)) (sym here)
    ∙ ap (option_map method_id) (sym (found_here p xs c.loop-k.k within c.loop-k.invariant (ap p here ∙ sym c.is_method.ensures.exact ∙ c.if-is_method.true)))

pub loop-k-preserved : goal.loop-k-preserved
loop-k-preserved c =
    let p = is_method c.args.members.now c.args.name c.args.wanted.now in
    let xs = range_with_len c.args.first c.args.count in
    let within : c.loop-k.k < length xs = omega (arith, length-range_with_len c.args.first c.args.count) in
    let here = get_or-range_with_len c.args.first c.args.count c.loop-k.k 0 (omega arith) in
    none_more p xs c.loop-k.k within c.loop-k.invariant (ap p here ∙ sym c.is_method.ensures.exact ∙ c.if-is_method.false)

pub returns : goal.returns
returns c =
    let p = is_method c.args.members.now c.args.name c.args.wanted.now in
    let xs = range_with_len c.args.first c.args.count in
    let past : length xs ≤ c.loop-k.k = omega (arith, length-range_with_len c.args.first c.args.count) in
    ap (option_map method_id) (sym (none_at_all p xs c.loop-k.k past c.loop-k.invariant))

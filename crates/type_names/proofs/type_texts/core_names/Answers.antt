use Rattle.std.proofs.Common.{◌≡◌, arith}
use Rattle.type_names.specs.Resolution.{core_type_name}
use Rattle.type_names.proofs.TextNumbers.{first_none, first_more, first_few, first_extends, first_numbers}
use Rattle.type_names.proofs.type_texts.core_names.Goals as goal

pub loop-number-init : goal.loop-number-init
loop-number-init c = first_none core_type_name c.args.names.now _ c.new-ids.ensures

pub number-requires : goal.number-requires
number-requires c =
    let few = first_few core_type_name c.args.names.now c.loop-number.number c.loop-number.names c.loop-number.ids c.loop-number.invariant in
    omega arith

pub loop-number-preserved : goal.loop-number-preserved
loop-number-preserved c =
    first_more core_type_name c.args.names.now c.loop-number.number c.loop-number.names c.number.new.self c.core_type_name.result.now c.in_ok-number.field-0
    c.loop-number.ids _ c.loop-number.invariant c.core_type_name.ensures c.in_ok-number.ensures.kept c.in_ok-number.ensures.number c.in_ok-push.ensures.ok

pub returns-clause-extends : goal.returns-clause-extends
returns-clause-extends c = first_extends core_type_name c.args.names.now c.loop-number.number c.loop-number.names c.loop-number.ids c.loop-number.invariant

pub returns-clause-numbers : goal.returns-clause-numbers
returns-clause-numbers c =
    let all : c.loop-number.number ≡ 36 = omega arith in
    first_numbers core_type_name c.args.names.now c.loop-number.number 36 c.loop-number.names c.loop-number.ids all c.loop-number.invariant

pub returns-clause-few : goal.returns-clause-few
returns-clause-few c =
    let few = first_few core_type_name c.args.names.now c.loop-number.number c.loop-number.names c.loop-number.ids c.loop-number.invariant in
    omega arith

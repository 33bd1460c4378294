use Rattle.std.proofs.Common.{◌<◌, length, arith, subst}
use Rattle.std.proofs.lemmas.List.{map-id}
use Rattle.type_pool.specs.declared.nodes.Id.{Id}
use Rattle.type_pool.specs.Trees.{at_all}
use Rattle.method_table.specs.Named.{NamesTypes}
use Rattle.method_table.proofs.Numbering.{all_numbered, one_numbered}
use Rattle.method_table.proofs.numbers.numbers_of.Goals as goal

pub loop-id-preserved : goal.loop-id-preserved
loop-id-preserved c =
    let k = c.loop-id in let d : Id = record { 0 = 0 } in let ts = c.args.pool.now in let ids = c.args.ids.now in
    let inside : k.id-index < length ids = omega arith in
    rw c.in_ok-push.ensures.ok (one_numbered (λ t. t) ts c.args.keys.now ids k.id-index ts k.keys k.done k.invariant ts c.number_of.new.keys c.in_ok-number.number d inside c.in_ok-number.ensures.grows c.in_ok-number.ensures.named)

pub returns-clause-named : goal.returns-clause-named
returns-clause-named c =
    let k = c.loop-id in let ts = c.args.pool.now in
    subst (NamesTypes ts k.keys k.done) (map-id (at_all ts c.args.ids.now)) (all_numbered (λ t. t) ts c.args.keys.now c.args.ids.now k.id-index ts k.keys k.done k.invariant c.loop-id-test.false)

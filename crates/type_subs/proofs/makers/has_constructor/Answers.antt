use Rattle.std.proofs.Common.{◌∙◌, sym, arith}
use Rattle.type_tree.proofs.Bounds.{methods_few}
use Rattle.type_subs.specs.Constraints.{is_plain_constructor}
use Rattle.type_subs.proofs.Runs.{methods_within, walk_found, walk_next}
use Rattle.type_subs.proofs.makers.has_constructor.Goals as goal

pub overflow_add-def : goal.overflow_add-def
overflow_add-def c =
    let within = methods_within c.args.world.now c.args.def.now c.requires in
    let few = methods_few c.args.world.now c.whole.ensures in
    omega (arith, within, few, c.loop-number-test.true)

pub returns-then-is_plain_constructor : goal.returns-then-is_plain_constructor
returns-then-is_plain_constructor c =
    walk_found (is_plain_constructor c.args.world.now) c.args.world.now.methods c.args.def.now.first_method c.args.def.now.methods c.loop-number.number c.loop-number.invariant c.method.result.now c.loop-number-test.true c.method.ensures.value (sym c.is_plain_constructor.ensures ∙ c.if-is_plain_constructor.true)

pub loop-number-preserved : goal.loop-number-preserved
loop-number-preserved c =
    walk_next (is_plain_constructor c.args.world.now) c.args.world.now.methods c.args.def.now.first_method c.args.def.now.methods c.loop-number.number c.loop-number.invariant c.method.result.now c.loop-number-test.true c.method.ensures.value (sym c.is_plain_constructor.ensures ∙ c.if-is_plain_constructor.false)

use Rattle.std.proofs.Common.{◌∙◌, sym, arith}
use Rattle.type_tree.proofs.Bounds.{methods_few}
use Rattle.def_faults.specs.Flags.{is_default}
use Rattle.def_faults.proofs.Runs.{runs_within, walk_found, walk_next}
use Rattle.def_faults.proofs.profile.has_default.Goals as goal

pub overflow_add-def : goal.overflow_add-def
overflow_add-def c =
    let within = (runs_within c.args.world.now c.args.def.now c.requires).1 in
    let few = methods_few c.args.world.now c.whole.ensures in
    omega (arith, within, few, c.loop-number-test.true)

pub returns-then-is_default : goal.returns-then-is_default
returns-then-is_default c =
    walk_found is_default c.args.world.now.methods c.args.def.now.first_method c.args.def.now.methods c.loop-number.number c.loop-number.invariant c.method.result.now c.loop-number-test.true c.method.ensures.value (sym c.is_default.ensures ∙ c.if-is_default.true)

pub loop-number-preserved : goal.loop-number-preserved
loop-number-preserved c =
    walk_next is_default c.args.world.now.methods c.args.def.now.first_method c.args.def.now.methods c.loop-number.number c.loop-number.invariant c.method.result.now c.loop-number-test.true c.method.ensures.value (sym c.is_default.ensures ∙ c.if-is_default.false)

use Rattle.std.proofs.Common.{◌∙◌, sym, arith}
use Rattle.type_tree.proofs.Bounds.{fields_few}
use Rattle.def_faults.specs.NotFound.{is_missing_field}
use Rattle.def_faults.proofs.Runs.{runs_within, walk_found, walk_next}
use Rattle.def_faults.proofs.missing.has_missing_field.Goals as goal

pub overflow_add-def : goal.overflow_add-def
overflow_add-def c =
    let within = (runs_within c.args.world.now c.args.def.now c.requires).0 in
    let few = fields_few c.args.world.now c.whole.ensures in
    omega (arith, within, few, c.loop-number-test.true)

pub returns-then-is_missing_field : goal.returns-then-is_missing_field
returns-then-is_missing_field c =
    walk_found is_missing_field c.args.world.now.fields c.args.def.now.first_field c.args.def.now.fields c.loop-number.number c.loop-number.invariant c.field.result.now c.loop-number-test.true c.field.ensures.value (sym c.is_missing_field.ensures ∙ c.if-is_missing_field.true)

pub loop-number-preserved : goal.loop-number-preserved
loop-number-preserved c =
    walk_next is_missing_field c.args.world.now.fields c.args.def.now.first_field c.args.def.now.fields c.loop-number.number c.loop-number.invariant c.field.result.now c.loop-number-test.true c.field.ensures.value (sym c.is_missing_field.ensures ∙ c.if-is_missing_field.false)

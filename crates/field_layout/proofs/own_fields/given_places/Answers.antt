use Rattle.std.proofs.Common.{◌∙◌, sym, arith}
use Rattle.type_tree.proofs.Bounds.{fields_few}
use Rattle.field_layout.proofs.Runs.{run_within, giving_push, giving_skip}
use Rattle.field_layout.proofs.own_fields.given_places.Goals as goal
use Rattle.field_layout.proofs.own_fields.given_places.Goals.{then-is_instance+in_ok-push, else-is_instance}

pub overflow_add-def : goal.overflow_add-def
overflow_add-def c =
    let within = run_within c.args.world.now c.args.def.now c.requires in
    let few = fields_few c.args.world.now c.whole.ensures in
    omega (arith, within, few, c.loop-number-test.true)

pub loop-number-preserved : goal.loop-number-preserved
loop-number-preserved c =
    let k = c.loop-number in
    elim c.if-is_instance.branch [
      | then-is_instance+in_ok-push w ↦
          rw (w.places-is, w.in_ok-push.ensures.ok) (giving_push c.args.world.now c.args.def.now k.number k.places k.invariant c.field-field.result.now c.loop-number-test.true c.field-field.ensures.value (sym c.is_instance.ensures ∙ w.if-is_instance.true))
      | else-is_instance w ↦
          rw w.places-is (giving_skip c.args.world.now c.args.def.now k.number k.places k.invariant c.field-field.result.now c.loop-number-test.true c.field-field.ensures.value (sym c.is_instance.ensures ∙ w.if-is_instance.false))
    ]

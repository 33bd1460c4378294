use Rattle.std.proofs.Common.{◌∙◌, sym, arith, List, subst}
use Rattle.type_tree.proofs.Bounds.{fields_few}
use Rattle.type_pool.proofs.JobLemmas.{below-grown, at_all-grown}
use Rattle.type_pool.specs.Trees.{at_all, Spells}
use Rattle.type_tree.specs.declared.tree.Ty.{Ty}
use Rattle.field_layout.specs.Fields.{type_in}
use Rattle.field_layout.proofs.Runs.{run_within, typing_push, typing_skip}
use Rattle.field_layout.proofs.own_fields.field_types.Goals as goal
use Rattle.field_layout.proofs.own_fields.field_types.Goals.{then-is_instance+in_ok-type_in+in_ok-push, else-is_instance}

pub overflow_add-def : goal.overflow_add-def
overflow_add-def c =
    let within = run_within c.args.world.now c.args.def.now c.requires.def in
    let few = fields_few c.args.world.now c.whole.ensures in
    omega (arith, within, few, c.loop-number-test.true)

pub type_in-requires : goal.type_in-requires
type_in-requires c = below-grown _ _ c.loop-number.invariant.grows c.args.args.now c.requires.args

pub loop-number-preserved : goal.loop-number-preserved
loop-number-preserved c =
    let k = c.loop-number in
    elim c.if-is_instance.branch [
      | then-is_instance+in_ok-type_in+in_ok-push w ↦
          let found = w.in_ok-type_in.ensures in
          let same = at_all-grown c.args.pool.now k.pool k.invariant.grows c.args.args.now c.requires.args in
          let spells : Spells w.type_in.new.pool w.in_ok-type_in.field-0 (type_in (at_all c.args.pool.now c.args.args.now) c.field-field.result.now) =
          subst (λ (a : List Ty). Spells w.type_in.new.pool w.in_ok-type_in.field-0 (type_in a c.field-field.result.now)) same found.spells in
          rw (w.pool-is, w.types-is, w.in_ok-push.ensures.ok)
          (typing_push _ _ _ _ _ _ _ k.invariant c.field-field.result.now c.loop-number-test.true c.field-field.ensures.value (sym c.is_instance.ensures ∙ w.if-is_instance.true) w.type_in.new.pool w.in_ok-type_in.field-0 found.grows spells)
      | else-is_instance w ↦
          rw (w.pool-is, w.types-is) (typing_skip _ _ _ _ _ _ _ k.invariant c.field-field.result.now c.loop-number-test.true c.field-field.ensures.value (sym c.is_instance.ensures ∙ w.if-is_instance.false))
    ]

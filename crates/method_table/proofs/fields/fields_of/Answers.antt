use Rattle.std.proofs.Common.{◌∙◌, List, arith, ap}
use Rattle.type_tree.specs.declared.tree.Ty.{Ty}
use Rattle.type_tree.proofs.Bounds.{fields_few}
use Rattle.type_pool.specs.Trees.{at_all}
use Rattle.type_pool.proofs.JobLemmas.{at_all-grown, below-grown}
use Rattle.field_layout.proofs.Runs.{run_within}
use Rattle.type_record.specs.Naming.{field_in}
use Rattle.type_tree.specs.declared.tree.Key.TheVariants as made
use Rattle.std.proofs.Common.{Some}
use Rattle.method_table.specs.Tables.{field_of}
use Rattle.method_table.proofs.FieldRuns.{one_done}
use Rattle.method_table.proofs.fields.fields_of.Goals as goal

pub overflow_add-def : goal.overflow_add-def
overflow_add-def c =
    let within = run_within c.args.world.now c.args.def.now c.requires.def in
    let few = fields_few c.args.world.now c.whole.ensures in
    omega (arith, within, few, c.loop-number-test.true)

pub field_of-requires-clause-args : goal.field_of-requires-clause-args
field_of-requires-clause-args c = below-grown c.args.pool.now c.loop-number.pool c.loop-number.invariant.grows.trees c.args.args.now c.requires.args

pub loop-number-preserved : goal.loop-number-preserved
loop-number-preserved c =
    let k = c.loop-number in let w = c.args.world.now in let ts = c.args.pool.now in
    let same = at_all-grown ts k.pool k.invariant.grows.trees c.args.args.now c.requires.args in
    let named = c.in_ok-one.ensures.named ∙ ap (λ (a : List Ty). field_in Some (field_in made.Tree (field_of w a c.offset_of-offset.result c.field-field.result.now))) same in
    rw c.in_ok-push.ensures.ok (one_done w c.args.def.now (at_all ts c.args.args.now) c.args.offsets.now ts c.args.keys.now k.number k.next k.pool k.keys k.done k.invariant c.field_of.new.pool c.field_of.new.keys c.field-field.result.now c.in_ok-one.one
    c.offset_of-offset.result c.given-next.result c.loop-number-test.true c.field-field.ensures.value c.offset_of-offset.ensures c.given-next.ensures c.in_ok-one.ensures.grows named)

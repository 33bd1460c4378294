use Rattle.std.proofs.Common.{◌++◌, ◌∷◌, [], ◌+◌, List, filter, drop, ap, ◌∙◌, arith}
use Rattle.type_tree.specs.declared.tree.Ty.{Ty}
use Rattle.type_tree.specs.Kinds.{is_value}
use Rattle.type_tree.specs.Subst.{subst_ty}
use Rattle.type_tree.proofs.Bounds.{fields_few}
use Rattle.type_pool.specs.Trees.{at_all}
use Rattle.type_pool.proofs.JobLemmas.{below-grown, at_all-grown, grows_trans}
use Rattle.type_relations.proofs.ValueLemmas.{own, value_types, run_within, field_step}
use Rattle.type_relations.proofs.contents.push_fields.Goals as goal

pub overflow_add-def : goal.overflow_add-def
overflow_add-def c =
    let within = run_within c.args.world.now c.args.def.now c.requires.def in
    let few = fields_few c.args.world.now c.whole.ensures in
    omega (arith, within, few, c.loop-number-test.true)

pub push_field-requires-clause-args : goal.push_field-requires-clause-args
push_field-requires-clause-args c = below-grown c.args.pool.now c.loop-number.pool c.loop-number.invariant.grows c.args.args.now c.requires.args

pub loop-number-preserved : goal.loop-number-preserved
loop-number-preserved c =
    let w = c.args.world.now in let d = c.args.def.now in let ts = c.args.pool.now in let was = c.loop-number in let f = c.field-field.result.now in
    let args = at_all ts c.args.args.now in
    let made = c.in_ok-push_field.ensures.adds in
    let same = at_all-grown ts was.pool was.invariant.grows c.args.args.now c.requires.args in
    let later = value_types w args (drop (was.number + 1) (own w d)) in record {
      grows = grows_trans ts was.pool c.push_field.new.pool was.invariant.grows c.push_field.ensures.grows;
      within = made.within;
      are = ap (λ l. l ++ later) (made.are ∙ ap (λ (a : List Ty). at_all was.pool was.ids ++ filter (is_value w) (subst_ty a [] f.ty ∷ [])) same)
          ∙ (field_step w d args (at_all was.pool was.ids) was.number f (run_within w d c.requires.def) c.loop-number-test.true c.field-field.ensures.value ∙ was.invariant.are);
    }

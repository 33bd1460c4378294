use Rattle.std.proofs.Common.{[], List, Some, ap, ap₂, ◌∙◌}
use Rattle.std.specs.Option.{option_map}
use Rattle.std.proofs.lemmas.Result.{IfOk-weaker}
use Rattle.type_tree.specs.declared.tree.Key.TheVariants as made
use Rattle.type_tree.specs.declared.tree.Ty.{Ty}
use Rattle.type_tree.specs.Subst.{subst_ty}
use Rattle.type_pool.proofs.JobLemmas.{at_all-grown, below-grown, grows_trans}
use Rattle.key_closure.proofs.NodeTurns.{keys_below-grown}
use Rattle.method_table.specs.Tables.{value_type}
use Rattle.method_table.proofs.Growing.{keys_stay}
use Rattle.method_table.proofs.fields.value_of.Goals as goal

pub returns-in_err-id-clause-grows : goal.returns-in_err-id-clause-grows
returns-in_err-id-clause-grows c = keys_stay c.args.pool.now c.from_tree.new.pool c.args.keys.now c.from_tree.ensures.grows c.requires.keys

pub subst-requires-clause-types_in : goal.subst-requires-clause-types_in
subst-requires-clause-types_in c = below-grown c.args.pool.now c.from_tree.new.pool c.from_tree.ensures.grows c.args.args.now c.requires.args

pub returns-in_err-exact-clause-grows : goal.returns-in_err-exact-clause-grows
returns-in_err-exact-clause-grows c =
    keys_stay c.args.pool.now c.subst.new.pool c.args.keys.now (grows_trans c.args.pool.now c.from_tree.new.pool c.subst.new.pool c.from_tree.ensures.grows c.subst.ensures.grows) c.requires.keys

pub value_number-requires-clause-keys : goal.value_number-requires-clause-keys
value_number-requires-clause-keys c =
    keys_below-grown c.args.pool.now c.subst.new.pool (grows_trans c.args.pool.now c.from_tree.new.pool c.subst.new.pool c.from_tree.ensures.grows c.subst.ensures.grows) c.args.keys.now c.requires.keys

pub returns-clause-named : goal.returns-clause-named
returns-clause-named c =
    let same = at_all-grown c.args.pool.now c.from_tree.new.pool c.from_tree.ensures.grows c.args.args.now c.requires.args in
    let is = c.in_ok-exact.ensures.spells.is ∙ ap₂ (λ (a : List Ty) (t : Ty). subst_ty a [] t) same c.in_ok-id.ensures.spells.is in
    IfOk-weaker c.value_number.result _ _ (λ n e. e ∙ ap (λ (t : Ty). option_map Some (option_map made.Tree (value_type c.args.world.now t))) is) c.value_number.ensures.named

use Rattle.std.proofs.Common.{[], List, Some, ap, ap₂, ◌∙◌}
use Rattle.std.proofs.lemmas.Result.{IfOk-weaker}
use Rattle.type_tree.specs.declared.tree.Key.TheVariants as made
use Rattle.type_tree.specs.declared.tree.Ty.{Ty}
use Rattle.type_tree.specs.Subst.{subst_ty}
use Rattle.type_pool.proofs.JobLemmas.{at_all-grown, below-grown}
use Rattle.key_closure.proofs.NodeTurns.{keys_below-grown}
use Rattle.method_table.proofs.Growing.{keys_stay}
use Rattle.method_table.proofs.numbers.named_number.Goals as goal

pub returns-in_err-id-clause-grows : goal.returns-in_err-id-clause-grows
returns-in_err-id-clause-grows c = keys_stay c.args.pool.now c.from_tree.new.pool c.args.keys.now c.from_tree.ensures.grows c.requires.keys

pub exact_number-requires-clause-args : goal.exact_number-requires-clause-args
exact_number-requires-clause-args c = below-grown c.args.pool.now c.from_tree.new.pool c.from_tree.ensures.grows c.args.args.now c.requires.args

pub exact_number-requires-clause-keys : goal.exact_number-requires-clause-keys
exact_number-requires-clause-keys c = keys_below-grown c.args.pool.now c.from_tree.new.pool c.from_tree.ensures.grows c.args.keys.now c.requires.keys

pub returns-clause-named : goal.returns-clause-named
returns-clause-named c =
    let same = at_all-grown c.args.pool.now c.from_tree.new.pool c.from_tree.ensures.grows c.args.args.now c.requires.args in
    let is = ap₂ (λ (a : List Ty) (t : Ty). subst_ty a [] t) same c.in_ok-id.ensures.spells.is in
    IfOk-weaker c.exact_number.result _ _ (λ n e. e ∙ ap (λ (t : Ty). Some (made.Tree t)) is) c.exact_number.ensures.named

use Rattle.std.proofs.Common.{◌++◌, ◌∷◌, [], List, sym, subst}
use Rattle.type_tree.specs.Subst.{subst_ty}
use Rattle.type_pool.specs.declared.nodes.Id.{Id}
use Rattle.type_pool.specs.Trees.{at_all}
use Rattle.type_pool.specs.Jobs.{SpellAll}
use Rattle.type_relations.proofs.ListLemmas.{push_spells, spell_themselves}
use Rattle.type_relations.proofs.lists.push_put_in.Goals as goal

pub returns-clause-adds : goal.returns-clause-adds
returns-clause-adds c =
    let ts = c.args.pool.now in let us = c.with_args.new.pool in
    subst (λ (ids : List Id). SpellAll us ids (at_all ts c.args.ids.now ++ subst_ty (at_all ts c.args.args.now) [] c.args.tree.now ∷ [])) (sym c.in_ok-push.ensures.ok)
    (push_spells ts us c.args.ids.now c.in_ok-put.put (at_all ts c.args.ids.now) (subst_ty (at_all ts c.args.args.now) [] c.args.tree.now)
    c.with_args.ensures.grows (spell_themselves ts c.args.ids.now c.requires.ids) c.in_ok-put.ensures.spells)

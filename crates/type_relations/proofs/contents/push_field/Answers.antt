use Rattle.std.proofs.lemmas.Result.{on_ok_weaker}
use Rattle.std.proofs.Common.{[]}
use Rattle.type_tree.specs.Kinds.{is_value}
use Rattle.type_tree.specs.Subst.{subst_ty}
use Rattle.type_pool.specs.Trees.{at_all}
use Rattle.type_relations.proofs.ValueLemmas.{tested_spells}
use Rattle.type_relations.proofs.contents.push_field.Goals as goal

pub returns-clause-adds : goal.returns-clause-adds
returns-clause-adds c =
    let ts = c.args.pool.now in let us = c.with_args.new.pool in
    on_ok_weaker c.push_value.result
    (tested_spells (is_value c.args.world.now) ts us c.args.ids.now c.push_value.new.ids c.in_ok-put.put (subst_ty (at_all ts c.args.args.now) [] c.args.tree.now) c.with_args.ensures.grows c.requires.ids c.in_ok-put.ensures.spells)
    c.push_value.ensures

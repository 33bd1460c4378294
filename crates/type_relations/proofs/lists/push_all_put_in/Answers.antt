use Rattle.std.proofs.Common.{◌+◌, ◌++◌, ◌∷◌, [], List, ap, ◌∙◌, drop, arith}
use Rattle.type_tree.specs.declared.tree.Ty.{Ty}
use Rattle.type_tree.specs.Subst.{subst_ty}
use Rattle.type_pool.specs.Trees.{at_all}
use Rattle.type_pool.proofs.JobLemmas.{below-grown, at_all-grown, grows_trans}
use Rattle.type_relations.specs.Relations.{put_in}
use Rattle.type_relations.proofs.ListLemmas.{all_step}
use Rattle.type_relations.proofs.lists.push_all_put_in.Goals as goal

pub push_put_in-requires-clause-args : goal.push_put_in-requires-clause-args
push_put_in-requires-clause-args c = below-grown c.args.pool.now c.loop-tree.pool c.loop-tree.invariant.grows c.args.args.now c.requires.args

pub loop-tree-preserved : goal.loop-tree-preserved
loop-tree-preserved c =
    let ts = c.args.pool.now in let was = c.loop-tree in let tree = c.tree-item.result in
    let args = at_all ts c.args.args.now in
    let made = c.in_ok-push_put_in.ensures.adds in
    let same = at_all-grown ts was.pool was.invariant.grows c.args.args.now c.requires.args in
    let later = put_in args (drop (was.tree-index + 1) c.args.trees.now) in record {
      grows = grows_trans ts was.pool c.push_put_in.new.pool was.invariant.grows c.push_put_in.ensures.grows;
      within = made.within;
      are = ap (λ l. l ++ later) (made.are ∙ ap (λ (a : List Ty). at_all was.pool was.ids ++ subst_ty a [] tree ∷ []) same)
          ∙ (all_step args (at_all was.pool was.ids) c.args.trees.now was.tree-index tree (omega arith) c.tree-item.is ∙ was.invariant.are);
    }

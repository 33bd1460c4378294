use Rattle.std.proofs.Common.{◌≡◌, length, ap, ◌∙◌, sym, arith}
use Rattle.type_tree.specs.Context.{arguments}
use Rattle.type_pool.specs.Keys.{arguments_of}
use Rattle.type_pool.specs.Trees.{at_all}
use Rattle.type_pool.proofs.KeyLemmas.{arguments-tree, arguments-below}
use Rattle.type_pool.proofs.Levels.{ids_below-more}
use Rattle.type_pool.proofs.key_walks.arguments.Goals as goal

pub returns : goal.returns
returns c =
    let ts = c.args.pool.now in
    let n = c.node.result.now in
    let is : c.in_ok-from_slice.field-0 ≡ arguments_of n = cc (c.in_ok-from_slice.ensures, c.level_arguments-args.ensures) in
    record {
      within = rw is (ids_below-more c.args.id.0 (length ts) (arguments_of n) (omega arith) (arguments-below c.args.id.0 n c.node.ensures.below));
      are = ap (at_all ts) is ∙ sym (arguments-tree ts n) ∙ ap arguments c.node.ensures.level;
    }

use Rattle.std.proofs.Common.{◌≡◌, ◌<◌, ◌-◌, ◌∷◌, ◌++◌, [], suc, List, length, drop, drop-cons, ap, ap₂, ◌∙◌, sym, arith}
use Rattle.type_tree.specs.declared.tree.Ty.{Ty}
use Rattle.type_tree.specs.Subst.{subst_ty, subst_all}
use Rattle.type_pool.specs.Trees.{at, at_all, ids_below}
use Rattle.type_pool.proofs.JobLemmas.{at_all-grown, below-grown, below-one, grows_trans}
use Rattle.interface_lists.specs.Walks.{stack}
use Rattle.interface_lists.proofs.Ids.{stack-push, stack-grown}
use Rattle.interface_lists.proofs.declared.push_all.Goals as goal

pub put_one-requires : goal.put_one-requires
put_one-requires c = below-grown c.args.pool.now c.loop-left.pool c.loop-left.invariant.grows c.args.args.now c.requires.args

pub loop-left-preserved : goal.loop-left-preserved
loop-left-preserved c =
    let k = c.loop-left in
    let p0 = c.args.pool.now in
    let p2 = c.put_one.new.pool in
    let types : List Ty = at_all p0 c.args.args.now in
    let same : at_all k.pool c.args.args.now ≡ types = at_all-grown p0 k.pool k.invariant.grows c.args.args.now c.requires.args in
    let grows = c.in_ok-id.ensures.grows in
    let made = c.in_ok-id.ensures.spells in
    let id = c.in_ok-id.id in
    let trees : List Ty = c.args.trees.now in
    let tree : Ty = c.index-trees-left.result in
    let i = k.left - 1 in
    let few = k.invariant.few in
    let some = c.loop-left-test.true in
    let inside : i < length trees = omega (arith, few, some) in
    let next : suc i ≡ k.left = omega (arith, some) in
    let row : drop i trees ≡ tree ∷ drop k.left trees =
    drop-cons trees i tree inside ∙ ap₂ (λ t n. t ∷ drop n trees) (sym c.index-trees-left.is) next in
    let top : at p2 id ≡ subst_ty types [] tree = made.is ∙ ap (λ us. subst_ty us [] tree) same in
    let before : stack p2 k.todo ≡ stack k.pool k.todo = stack-grown k.pool p2 grows k.todo k.invariant.within in
    record {
      grows = grows_trans p0 k.pool p2 k.invariant.grows grows;
      few = omega (arith, few);
      within = ap (ids_below (length p2)) c.in_ok-push.ensures.ok ∙ below-one (length p2) k.todo id (below-grown k.pool p2 grows k.todo k.invariant.within) made.within;
      are = ap (stack p2) c.in_ok-push.ensures.ok ∙ stack-push p2 k.todo id ∙ ap₂ ◌∷◌ top (before ∙ k.invariant.are)
          ∙ sym (ap (λ l. subst_all types [] l ++ stack p0 c.args.todo.now) row);
    }

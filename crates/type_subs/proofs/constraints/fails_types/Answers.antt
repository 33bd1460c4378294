use Rattle.std.proofs.Common.{◌≡◌, true, false, not, length, ap, ◌∙◌, sym, arith}
use Rattle.type_tree.specs.declared.tree.Ty.{Ty}
use Rattle.type_tree.specs.Subst.{subst_ty}
use Rattle.type_pool.specs.Keys.{keys_below}
use Rattle.type_pool.specs.Trees.{at, at_all}
use Rattle.type_pool.proofs.JobLemmas.{below-grown, grows_trans}
use Rattle.key_closure.specs.Bounds.{keys_at}
use Rattle.key_closure.proofs.NodeTurns.{keys-grown, keys_below-grown}
use Rattle.type_subs.specs.Supers.{extends}
use Rattle.type_subs.proofs.AnyLoops.{left_found, left_next}
use Rattle.type_subs.proofs.PutLemmas.{meets}
use Rattle.type_subs.proofs.constraints.fails_types.Goals as goal

pub is_met-requires-clause-types : goal.is_met-requires-clause-types
is_met-requires-clause-types c = below-grown c.args.pool.now c.loop-constraint.pool c.loop-constraint.invariant.grows c.args.types.now c.requires.types

pub is_met-requires-clause-methods : goal.is_met-requires-clause-methods
is_met-requires-clause-methods c = below-grown c.args.pool.now c.loop-constraint.pool c.loop-constraint.invariant.grows c.args.methods.now c.requires.methods

pub returns-then-not-branch-clause-is : goal.returns-then-not-branch-clause-is
returns-then-not-branch-clause-is c =
    let ts = c.args.pool.now in let was = c.loop-constraint in let w = c.args.world.now in let item = c.constraint-item.result in
    let types = c.args.types.now in let methods = c.args.methods.now in let arg = at ts c.args.arg in
    let p = λ (x : Ty). not (extends w arg (subst_ty (at_all ts types) (at_all ts methods) x)) in
    let unmet : c.in_ok-is_met.field-0 ≡ false = search in
    let is = meets ts was.pool was.invariant.grows types methods c.requires.types c.requires.methods w was.keys arg item c.in_ok-is_met.field-0 was.invariant.are c.in_ok-is_met.ensures.is in
    left_found p c.args.constraints.now was.constraint-index item was.invariant.left (omega arith) (sym c.constraint-item.is) (ap not (sym is ∙ unmet))

pub loop-constraint-preserved : goal.loop-constraint-preserved
loop-constraint-preserved c =
    let ts = c.args.pool.now in let was = c.loop-constraint in let us = c.is_met.new.pool in let w = c.args.world.now in let item = c.constraint-item.result in
    let types = c.args.types.now in let methods = c.args.methods.now in let arg = at ts c.args.arg in
    let p = λ (x : Ty). not (extends w arg (subst_ty (at_all ts types) (at_all ts methods) x)) in
    let met : c.in_ok-is_met.field-0 ≡ true = search in
    let kept = c.in_ok-is_met.ensures.stay met in
    let is = meets ts was.pool was.invariant.grows types methods c.requires.types c.requires.methods w was.keys arg item c.in_ok-is_met.field-0 was.invariant.are c.in_ok-is_met.ensures.is in record {
      grows = grows_trans ts was.pool us was.invariant.grows c.is_met.ensures.grows;
      below = ap (keys_below (length us)) kept ∙ keys_below-grown was.pool us c.is_met.ensures.grows was.keys was.invariant.below;
      are = ap (keys_at us) kept ∙ (keys-grown was.pool us c.is_met.ensures.grows was.keys was.invariant.below ∙ was.invariant.are);
      left = left_next p c.args.constraints.now was.constraint-index item was.invariant.left (omega arith) (sym c.constraint-item.is) (ap not (sym is ∙ met));
    }

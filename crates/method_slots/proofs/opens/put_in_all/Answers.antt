use Rattle.std.proofs.Common.{◌≡◌, ◌<◌, [], length, get_or, ap, ◌∙◌, arith}
use Rattle.type_tree.specs.declared.tree.Ty.{Ty}
use Rattle.type_tree.specs.Subst.{subst_ty}
use Rattle.type_pool.specs.declared.nodes.Id.{Id}
use Rattle.type_pool.specs.Trees.{at, at_all}
use Rattle.type_pool.proofs.JobLemmas.{all_step, at-grown, at_all-grown, below-grown, below-one, below_at, below_next, grown_length, grows_trans}
use Rattle.method_slots.proofs.opens.put_in_all.Goals as goal

pub subst-requires-clause-within : goal.subst-requires-clause-within
subst-requires-clause-within c =
    let k = c.loop-id in
    let d : Id = record { 0 = 0 } in
    let ids = c.args.ids.now in
    let inside : k.id-index < length ids = omega arith in
    let low = below_at (length c.args.pool.now) ids k.id-index d inside k.invariant.below in
    let longer = grown_length c.args.pool.now k.pool k.invariant.grows in
    omega (arith, low, longer)

pub subst-requires-clause-types_in : goal.subst-requires-clause-types_in
subst-requires-clause-types_in c =
    let k = c.loop-id in
    below-grown c.args.pool.now k.pool k.invariant.grows c.args.types.now c.requires.types_in

pub loop-id-preserved : goal.loop-id-preserved
loop-id-preserved c =
    let k = c.loop-id in
    let d : Id = record { 0 = 0 } in
    let ts = c.args.pool.now in
    let types = c.args.types.now in
    let ids = c.args.ids.now in
    let f : Ty → Ty = subst_ty (at_all ts types) [] in
    let one = get_or ids k.id-index d in
    let was = k.invariant in
    let made = c.in_ok-subst.ensures in
    let pool = c.subst.new.pool in
    let r = c.in_ok-subst.field-0 in
    let inside : k.id-index < length ids = omega arith in
    let within : one.0 < length ts = below_at (length ts) ids k.id-index d inside was.below in
    let same = at-grown ts k.pool was.grows one within in
    let put = at_all-grown ts k.pool was.grows types c.requires.types_in in
    let is : at pool r ≡ f (at ts one) = made.spells.is ∙ ap (λ us. subst_ty us [] (at k.pool one)) put ∙ ap f same in
    record {
      below = below_next (length ts) ids k.id-index d inside was.below;
      grows = grows_trans ts k.pool pool was.grows made.grows;
      within = rw c.in_ok-push.ensures.ok (below-one (length pool) k.done r (below-grown k.pool pool made.grows k.done was.within) made.spells.within);
      are = rw c.in_ok-push.ensures.ok (all_step f ts k.pool pool k.done ids k.id-index d r _ inside was.are made.grows was.within is);
    }

use Rattle.std.proofs.Common.{◌≡◌, ◌<◌, ◌-◌, ◌∷◌, suc, List, length, drop, drop-cons, get_or, ap, ◌∙◌, sym, subst, arith}
use Rattle.type_pool.specs.declared.nodes.Id.{Id}
use Rattle.type_pool.specs.Trees.{at, at_all}
use Rattle.type_pool.proofs.JobLemmas.{grows_trans}
use Rattle.method_slots.proofs.VirtualLemmas.{opens_trans}
use Rattle.slot_chains.specs.Levels.{IsOwner}
use Rattle.interface_maps.specs.Choices.{member_publics, publics_of}
use Rattle.interface_maps.specs.Publics.{GainPublics}
use Rattle.interface_maps.proofs.MemberLemmas.{owner-at, same-at}
use Rattle.interface_maps.proofs.PublicLemmas.{gains-more}
use Rattle.interface_maps.proofs.members.add_chain.Goals as goal

pub add_member-requires-clause-owner : goal.add_member-requires-clause-owner
add_member-requires-clause-owner c =
    let k = c.loop-left in
    let p0 = c.args.pool.now in
    let ids : List Id = c.args.chain.now in
    let i = k.left - 1 in
    let inside : i < length ids = omega (arith, k.invariant.few, c.loop-left-test.true) in
    subst (IsOwner c.args.notes.now.places) (sym (same-at p0 k.pool k.invariant.grows ids c.requires.within i (record { 0 = 0 }) inside)) (owner-at c.args.notes.now.places p0 ids i (record { 0 = 0 }) inside c.requires.owners)

pub loop-left-preserved : goal.loop-left-preserved
loop-left-preserved c =
    let k = c.loop-left in
    let w = c.args.world.now in
    let p0 = c.args.pool.now in
    let s0 = c.args.set.now in
    let p2 = c.add_member.new.pool in
    let s2 = c.add_member.new.set in
    let ids : List Id = c.args.chain.now in
    let i = k.left - 1 in
    let few = k.invariant.few in
    let some = c.loop-left-test.true in
    let inside : i < length ids = omega (arith, few, some) in
    let id : Id = get_or ids i (record { 0 = 0 }) in
    let next : suc i ≡ k.left = omega (arith, some) in
    let row : drop i ids ≡ id ∷ drop k.left ids = drop-cons ids i (record { 0 = 0 }) inside ∙ ap (λ n. id ∷ drop n ids) next in
    let made = c.in_ok-add_member.ensures in
    let same = same-at p0 k.pool k.invariant.grows ids c.requires.within i (record { 0 = 0 }) inside in
    let gain = subst (λ t. GainPublics k.pool k.set k.numbers p2 s2 c.add_member.new.numbers (member_publics w t)) same made.gains in
    record {
      grows = grows_trans p0 k.pool p2 k.invariant.grows made.grows;
      set_grows = opens_trans s0 k.set s2 k.invariant.set_grows made.set_grows;
      few = omega (arith, few);
      gains = gains-more p0 k.pool p2 s0 k.set s2 c.args.numbers.now k.numbers c.add_member.new.numbers (publics_of w (at_all p0 (drop k.left ids))) (member_publics w (at p0 id)) _ k.invariant.gains gain
          (ap (λ l. publics_of w (at_all p0 l)) row);
    }

use Rattle.std.proofs.Common.{◌≡◌, ◌+◌, ◌<◌, ◌++◌, ◌∷◌, [], List, length, map, take, get_or, ap, ◌∙◌, sym, subst, arith}
use Rattle.std.proofs.lemmas.List.{map-append, take_more}
use Rattle.type_tree.specs.declared.definition.Def.{Def}
use Rattle.type_tree.specs.declared.tree.Ty.{Ty}
use Rattle.type_pool.specs.declared.nodes.Id.{Id}
use Rattle.type_pool.specs.Trees.{at, at_all}
use Rattle.type_pool.proofs.JobLemmas.{grown_length, grows_trans}
use Rattle.method_slots.proofs.VirtualLemmas.{opens_trans}
use Rattle.interface_maps.specs.Choices.{Answered, answered}
use Rattle.interface_maps.specs.Found.{AreFound, IsFound}
use Rattle.interface_maps.specs.Maps.{above_of, own_of}
use Rattle.interface_maps.proofs.MapLemmas.{found-append, found-grown, known-grown}
use Rattle.interface_maps.proofs.MemberLemmas.{below-at, same-at}
use Rattle.interface_maps.proofs.choices.answer_all.Goals as goal

pub answer_one-requires-clause-known : goal.answer_one-requires-clause-known
answer_one-requires-clause-known c =
    let w = c.args.world.now in
    let d : Def = c.args.def.now in
    let k = c.loop-i in
    known-grown c.args.pool.now k.pool k.invariant.grows c.args.set.now k.set k.invariant.set_grows w c.args.id.0 d (own_of w d) (above_of w d) c.args.known.now c.args.found.now c.requires.known

pub answer_one-requires-clause-tree : goal.answer_one-requires-clause-tree
answer_one-requires-clause-tree c =
    let k = c.loop-i in
    let ids : List Id = c.args.list.now in
    let inside : k.i < length ids = omega arith in
    let low = below-at (length c.args.pool.now) ids k.i (record { 0 = 0 }) inside c.requires.list in
    let l = grown_length c.args.pool.now k.pool k.invariant.grows in
    omega (arith, low, l)

pub loop-i-preserved : goal.loop-i-preserved
loop-i-preserved c =
    let w = c.args.world.now in
    let d : Def = c.args.def.now in
    let k = c.loop-i in
    let p0 = c.args.pool.now in
    let p2 = c.answer_one.new.pool in
    let ids : List Id = c.args.list.now in
    let inside : k.i < length ids = omega arith in
    let id : Id = get_or ids k.i (record { 0 = 0 }) in
    let made = c.in_ok-one.ensures in
    let f : Ty → Answered = answered w c.args.id.0 d (own_of w d) (above_of w d) in
    let before : List Ty = at_all p0 (take k.i ids) in
    let more : at_all p0 (take (k.i + 1) ids) ≡ before ++ at p0 id ∷ [] = ap (at_all p0) (take_more ids k.i (record { 0 = 0 }) inside) ∙ map-append (at p0) (take k.i ids) (id ∷ []) in
    let all : map f (at_all p0 (take (k.i + 1) ids)) ≡ map f before ++ f (at p0 id) ∷ [] = ap (map f) more ∙ map-append f before (at p0 id ∷ []) in
    let same : at k.pool id ≡ at p0 id = same-at p0 k.pool k.invariant.grows ids c.requires.list k.i (record { 0 = 0 }) inside in
    let one : IsFound p2 c.in_ok-one.one (f (at p0 id)) = subst (λ t. IsFound p2 c.in_ok-one.one (f t)) same made.found in
    let grown = found-grown k.pool p2 made.grows k.done (map f before) k.invariant.found in
    record {
      grows = grows_trans p0 k.pool p2 k.invariant.grows made.grows;
      set_grows = opens_trans c.args.set.now k.set c.answer_one.new.set k.invariant.set_grows made.set_grows;
      found = subst (AreFound p2 c.push.new.self) (sym all) (subst (λ l. AreFound p2 l (map f before ++ f (at p0 id) ∷ [])) (sym c.in_ok-push.ensures.ok) (found-append p2 k.done (map f before) c.in_ok-one.one (f (at p0 id)) grown one));
    }

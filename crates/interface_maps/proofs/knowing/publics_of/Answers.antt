use Rattle.std.proofs.Common.{◌≡◌, [], length, ap, ◌∙◌, sym, subst, arith}
use Rattle.std.proofs.lemmas.Option.{slice_get_within}
use Rattle.method_slots.specs.Chains as chains
use Rattle.type_pool.specs.Trees.{at_all, ids_below}
use Rattle.slot_chains.specs.Levels.{OwnersNoted}
use Rattle.slot_chains.proofs.NoteLemmas.{level-read, numbers-noted}
use Rattle.slot_chains.proofs.OwnerLemmas.{chain-owners}
use Rattle.interface_maps.specs.Choices.{publics, publics_of}
use Rattle.interface_maps.specs.Publics.{ArePublics}
use Rattle.interface_maps.proofs.MapLemmas.{no-publics, publics-at}
use Rattle.interface_maps.proofs.knowing.publics_of.Goals as goal
use Rattle.interface_maps.proofs.knowing.publics_of.Goals.{in-Some+in_ok-add_chain, in_default}

pub bounds-as_slice-place : goal.bounds-as_slice-place
bounds-as_slice-place c =
    let found = c.requires.slots.all c.args.id.0 c.in-Some.place (sym c.in-Some.ensures) in
    let inside = slice_get_within c.args.slots.now.levels c.in-Some.place found.level found.here in
    let same = ap length c.as_slice.ensures in
    omega (arith, inside, same)

pub add_chain-requires-clause-within : goal.add_chain-requires-clause-within
add_chain-requires-clause-within c =
    let ts = c.args.pool.now in
    let is = level-read c.args.world.now ts c.args.slots.now c.requires.slots c.args.id.0 c.in-Some.place (sym c.in-Some.ensures) c.as_slice.result.now c.as_slice.ensures c.index-as_slice-place.result c.index-as_slice-place.is in
    ap (ids_below (length ts)) c.as_slice-chain.ensures ∙ is.chain.within

pub add_chain-requires-clause-noted : goal.add_chain-requires-clause-noted
add_chain-requires-clause-noted c = numbers-noted c.args.world.now c.args.pool.now c.args.slots.now c.requires.slots

pub add_chain-requires-clause-owners : goal.add_chain-requires-clause-owners
add_chain-requires-clause-owners c =
    let w = c.args.world.now in
    let ts = c.args.pool.now in
    let places = c.args.slots.now.places in
    let is = level-read w ts c.args.slots.now c.requires.slots c.args.id.0 c.in-Some.place (sym c.in-Some.ensures) c.as_slice.result.now c.as_slice.ensures c.index-as_slice-place.result c.index-as_slice-place.is in
    subst (OwnersNoted places) (sym (ap (at_all ts) c.as_slice-chain.ensures ∙ is.chain.are)) (chain-owners w places c.requires.slots.chains chains.longest_chain c.args.id.0 c.requires.noted)

pub returns-clause-publics : goal.returns-clause-publics
returns-clause-publics c =
    let w = c.args.world.now in
    let n = c.args.id.0 in
    let ts = c.args.pool.now in
    elim c.match-place.branch [
      | in-Some+in_ok-add_chain k ↦
          let is = level-read w ts c.args.slots.now c.requires.slots n k.in-Some.place (sym k.in-Some.ensures) k.as_slice.result.now k.as_slice.ensures k.index-as_slice-place.result k.index-as_slice-place.is in
          let none : ArePublics ts c.args.set.now c.new-numbers.result [] = no-publics ts c.args.set.now c.new-numbers.result c.new-numbers.ensures.empty in
          let same : at_all ts k.as_slice-chain.result.now ≡ chains.chain chains.longest_chain w n = ap (at_all ts) k.as_slice-chain.ensures ∙ is.chain.are in
          publics-at c.match-place.pool k.add_chain.new.pool c.match-place.set k.add_chain.new.set c.match-place.numbers k.add_chain.new.numbers (publics w n) (publics_of w (at_all ts k.as_slice-chain.result.now))
          k.pool-is k.set-is k.numbers-is (ap (publics_of w) same) (k.in_ok-add_chain.ensures.gains [] none)
      | in_default k ↦ absurd (k.in_default.not-Some c.requires.noted.place (c.place.ensures ∙ c.requires.noted.here))
    ]

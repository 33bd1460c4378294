use Rattle.std.proofs.Common.{◌≡◌, List, [], map, ap, ap₂, ◌∙◌, sym, subst}
use Rattle.type_tree.specs.Context.{arguments}
use Rattle.type_tree.specs.Subst.{subst_all}
use Rattle.type_pool.specs.declared.nodes.Id.{Id}
use Rattle.type_pool.specs.Trees.{at_all, ids_below}
use Rattle.type_pool.proofs.JobLemmas.{at_all-grown, below-grown, grows_trans, spell_all-grown}
use Rattle.method_slots.specs.Keyed.{AreNamed}
use Rattle.method_slots.specs.Opens.{put_open}
use Rattle.method_slots.proofs.VirtualLemmas.{all_named-grown, opens_refl}
use Rattle.slot_chains.proofs.handing.hand_down.Goals as goal
use Rattle.std.specs.Prelude.{length}

pub put_in_all-requires-clause-within : goal.put_in_all-requires-clause-within
put_in_all-requires-clause-within c =
    let p1 = c.arguments_of.new.pool in
    ap (ids_below (length p1)) c.as_slice.ensures ∙ below-grown c.args.pool.now p1 c.in_ok-types.ensures.grows c.args.level.now.chain c.requires.chain

pub hand_keys-requires-clause-named : goal.hand_keys-requires-clause-named
hand_keys-requires-clause-named c =
    let p0 = c.args.pool.now in
    let p2 = c.put_in_all.new.pool in
    let os = c.args.set.now in
    let grows = grows_trans p0 c.arguments_of.new.pool p2 c.in_ok-types.ensures.grows c.in_ok-chain.ensures.grows in
    let keys = c.args.level.now.keys in
    let slots = c.requires.keys.0 in
    (slots, subst (λ ks. AreNamed p2 os ks slots) (sym c.as_slice-3.ensures) (all_named-grown p0 p2 os os grows (opens_refl os) keys slots c.requires.keys.1))

pub hand_keys-requires-clause-types_in : goal.hand_keys-requires-clause-types_in
hand_keys-requires-clause-types_in c =
    let p2 = c.put_in_all.new.pool in
    ap (ids_below (length p2)) c.as_slice-4.ensures ∙ below-grown c.arguments_of.new.pool p2 c.in_ok-chain.ensures.grows c.in_ok-types.types c.in_ok-types.ensures.spells.within

pub returns-clause-chain : goal.returns-clause-chain
returns-clause-chain c =
    let p0 = c.args.pool.now in
    let p1 = c.arguments_of.new.pool in
    let p3 = c.hand_keys.new.pool in
    let trees = c.args.level.now.chain in
    let made = c.in_ok-chain.ensures.spells in
    let types : at_all p1 c.as_slice-2.result.now ≡ arguments c.args.parent.now = ap (at_all p1) c.as_slice-2.ensures ∙ c.in_ok-types.ensures.spells.are in
    let all : at_all p1 c.as_slice.result.now ≡ at_all p0 trees = ap (at_all p1) c.as_slice.ensures ∙ at_all-grown p0 p1 c.in_ok-types.ensures.grows trees c.requires.chain in
    spell_all-grown c.put_in_all.new.pool p3 c.in_ok-keys.ensures.grows c.in_ok-chain.chain _
    (record { within = made.within; are = made.are ∙ ap₂ (λ us vs. subst_all us [] vs) types all })

pub returns-clause-keys : goal.returns-clause-keys
returns-clause-keys c = λ slots named.
    let p0 = c.args.pool.now in
    let p1 = c.arguments_of.new.pool in
    let p2 = c.put_in_all.new.pool in
    let os = c.args.set.now in
    let ids : List Id = c.in_ok-types.types in
    let keys = c.args.level.now.keys in
    let grows = grows_trans p0 p1 p2 c.in_ok-types.ensures.grows c.in_ok-chain.ensures.grows in
    let types : at_all p2 c.as_slice-4.result.now ≡ arguments c.args.parent.now =
    ap (at_all p2) c.as_slice-4.ensures ∙ at_all-grown p1 p2 c.in_ok-chain.ensures.grows ids c.in_ok-types.ensures.spells.within ∙ c.in_ok-types.ensures.spells.are in
    let grown = subst (λ ks. AreNamed p2 os ks slots) (sym c.as_slice-3.ensures) (all_named-grown p0 p2 os os grows (opens_refl os) keys slots named) in
    subst (λ us. AreNamed c.hand_keys.new.pool c.hand_keys.new.set c.in_ok-keys.keys (map (put_open us) slots)) types (c.in_ok-keys.ensures.hands_on slots grown)

use Rattle.std.proofs.Common.{◌≡◌, true, Some, slice_get, ◌∙◌, sym, ap, ap₂, subst}
use Rattle.std.proofs.lemmas.Result.{IfOk-weaker}
use Rattle.type_tree.specs.declared.tree.Key.{Key}
use Rattle.type_tree.specs.Context.{key_of}
use Rattle.type_pool.specs.Keys.{key_at, key_below, SpellsKey}
use Rattle.type_pool.proofs.JobLemmas.{grows_trans}
use Rattle.key_closure.proofs.NodeTurns.{key-grown, key_below-grown}
use Rattle.key_desk.specs.Desks.{context_with, keys_of}
use Rattle.key_desk.proofs.Keeping.{stays, key_here, node_below}
use Rattle.key_desk.proofs.work.asked_node.Goals as goal

pub returns-in_err-own-clause-works : goal.returns-in_err-own-clause-works
returns-in_err-own-clause-works c = stays c.args.world.now c.args.work.now c.from_key.new.pool c.requires.right c.from_key.ensures.grows

pub key_of-requires-clause-within : goal.key_of-requires-clause-within
key_of-requires-clause-within c =
    key_below-grown c.args.work.now.pool c.from_key.new.pool c.from_key.ensures.grows c.get.result.now (node_below c.args.work.now.pool c.args.work.now.keys c.in-Some.number.0 c.get.result.now c.requires.right.within c.get.ensures)

pub returns-in-None-clause-works : goal.returns-in-None-clause-works
returns-in-None-clause-works c = stays c.args.world.now c.args.work.now c.from_key.new.pool c.requires.right c.from_key.ensures.grows

pub returns-in-Some-clause-works : goal.returns-in-Some-clause-works
returns-in-Some-clause-works c =
    stays c.args.world.now c.args.work.now c.key_of.new.pool c.requires.right (grows_trans c.args.work.now.pool c.from_key.new.pool c.key_of.new.pool c.from_key.ensures.grows c.key_of.ensures.grows)

pub returns-in-Some-clause-spells : goal.returns-in-Some-clause-spells
returns-in-Some-clause-spells c =
    let old = c.args.work.now in let mid = c.from_key.new.pool in let node = c.get.result.now in
    let context : Some (key_at mid node) ≡ context_with (keys_of old) c.args.context =
    ap Some (key-grown old.pool mid c.from_key.ensures.grows node (node_below old.pool old.keys c.in-Some.number.0 node c.requires.right.within c.get.ensures))
    ∙ (sym (key_here old.pool old.keys c.in-Some.number.0 node c.get.ensures) ∙ sym (ap (context_with (keys_of old)) c.in-Some.is)) in
    IfOk-weaker c.key_of.result _ _ (λ k spells s at.
    let sig : key_at mid c.in_ok-own.own ≡ s = c.in_ok-own.ensures.spells.is ∙ some_key c.sig.result.now s (sym c.sig.ensures.value ∙ at) in
    subst (λ (z : Key). SpellsKey c.key_of.new.pool k z) (ap₂ key_of context sig) spells) c.key_of.ensures.spells
  where
    some_key : (x y : Key) → Some x ≡ Some y → x ≡ y
    some_key x y e = cc

use Rattle.std.proofs.Common.{◌≡◌, ◌+◌, ◌&&◌, Bool, List, length, drop, ap, ◌∙◌, sym, subst, arith}
use Rattle.std.specs.List.{list_all}
use Rattle.std.proofs.lemmas.Bool.{and_parts}
use Rattle.type_pool.specs.declared.key_nodes.KeyNode.{KeyNode}
use Rattle.type_pool.specs.Keys.{key_at, key_below, keys_below}
use Rattle.key_closure.specs.Closures.{Adds, AddsAll}
use Rattle.key_closure.specs.Bounds.{fits, keys_at}
use Rattle.key_closure.proofs.ListSteps.{and_assoc}
use Rattle.key_closure.proofs.NodeSteps.{row}
use Rattle.key_closure.proofs.closing.add_all.Goals as goal

pub loop-key-preserved : goal.loop-key-preserved
loop-key-preserved c =
    let ts = c.args.pool.now in
    let was = c.loop-key in
    let key = c.in_ok-key.key in
    let later = drop (was.key-index + 1) c.args.more.now in
    let front = row c.args.more.now was.key-index c.key-item.result (omega arith) c.key-item.is in
    let is : key ≡ c.key-item.result = c.in_ok-key.ensures in record {
      within = (and_parts (key_below (length ts) c.key-item.result) (keys_below (length ts) later) (sym (ap (keys_below (length ts)) front) ∙ was.invariant.within)).1;
      below = c.in_ok-one.ensures.below;
      rest = λ after a. was.invariant.rest after
          (subst (λ (l : List KeyNode). AddsAll (keys_at ts was.members) (keys_at ts l) after) (sym front)
          (keys_at ts c.add_one.new.members, subst (λ (k : KeyNode). Adds (keys_at ts was.members) (key_at ts k) (keys_at ts c.add_one.new.members)) is c.in_ok-one.ensures.adds, a));
      fit =
          ap (λ (b : Bool). b && list_all fits (keys_at ts later)) (c.both-fit.ensures ∙ ap (λ (o : Bool). was.fit && o) (c.in_ok-one.ensures.fits ∙ ap (λ (k : KeyNode). fits (key_at ts k)) is))
          ∙ (and_assoc was.fit (fits (key_at ts c.key-item.result)) (list_all fits (keys_at ts later))
          ∙ (sym (ap (λ (l : List KeyNode). was.fit && list_all fits (keys_at ts l)) front) ∙ was.invariant.fit));
    }

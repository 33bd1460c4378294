use Rattle.std.proofs.Common.{◌≡◌, List, length, ap, ◌∙◌, sym}
use Rattle.type_pool.specs.Keys.{keys_below}
use Rattle.type_pool.specs.declared.key_nodes.KeyNode.{KeyNode}
use Rattle.key_closure.specs.Bounds.{keys_at}
use Rattle.key_closure.proofs.NodeTurns.{keys-grown, keys_below-grown}
use Rattle.key_verdicts.specs.Verdicts.{first_refused, refused_at}
use Rattle.key_verdicts.proofs.judging.of_members.Goals as goal

pub returns-in-None-clause-below : goal.returns-in-None-clause-below
returns-in-None-clause-below g c =
    let ts = c.args.pool.now in let us = c.first_refused.new.pool in
    ap (keys_below (length us)) c.in_ok-keys.ensures ∙ keys_below-grown ts us c.first_refused.ensures.grows c.args.members.now c.requires.within

pub returns-in-None-clause-said : goal.returns-in-None-clause-said
returns-in-None-clause-said g c =
    let ts = c.args.pool.now in let us = c.first_refused.new.pool in
    let local = g.L.LocalFaults.local c.args.faults.now c.args.world.now in
    let given : c.as_slice.result.now ≡ c.args.members.now = c.as_slice.ensures ∙ c.in_ok-keys.ensures in (
      ap (keys_at us) c.in_ok-keys.ensures ∙ keys-grown ts us c.first_refused.ensures.grows c.args.members.now c.requires.within,
      sym (ap (λ (l : List KeyNode). first_refused local (keys_at ts l)) given) ∙ (sym c.in_ok-refused.ensures.first ∙ ap (refused_at us) c.in-None.is),
    )

use Rattle.std.proofs.Common.{◌≡◌, inl, length, refl, ap, ◌∙◌, sym, subst}
use Rattle.std.proofs.lemmas.Result.{IfOk-weaker}
use Rattle.type_tree.specs.Canon.{canon_ty}
use Rattle.type_pool.specs.declared.key_nodes.KeyNode.{KeyNode}
use Rattle.type_pool.specs.Keys.{key_at}
use Rattle.type_pool.proofs.JobLemmas.{noted-grown, on_ok}
use Rattle.key_closure.specs.Bounds.{IsTooLarge}
use Rattle.key_closure.proofs.NodeTurns.{key-grown, key_below-grown}
use Rattle.key_verdicts.specs.declared.judging.Judged.{Judged}
use Rattle.key_verdicts.specs.Verdicts.{direct, judged_below, verdict_at, IsVerdict}
use Rattle.key_verdicts.proofs.judging.judge_in.Goals as goal

pub returns-in-Some-clause-canonical : goal.returns-in-Some-clause-canonical
returns-in-Some-clause-canonical g c =
    on_ok c.of_members.result (noted-grown c.closure.new.pool c.of_members.new.pool c.of_members.ensures.grows (canon_ty c.args.world.now) c.closure.new.notes.canonical c.in_ok-found.ensures.noted.0)

pub returns-in-None-clause-below : goal.returns-in-None-clause-below
returns-in-None-clause-below g c =
    let us = c.closure.new.pool in
    IfOk-weaker c.too_large.result _ _
    (λ judged e. ap (judged_below (length us)) e ∙ key_below-grown c.args.pool.now us c.closure.ensures.grows c.args.key.now c.requires.within)
    c.too_large.ensures

pub returns-in-None-clause-verdict : goal.returns-in-None-clause-verdict
returns-in-None-clause-verdict g c =
    let w = c.args.world.now in let ts = c.args.pool.now in let us = c.closure.new.pool in let key = c.args.key.now in
    let local = g.L.LocalFaults.local c.args.members.now.faults.faults w in
    let none : IsTooLarge (direct local w) (key_at ts c.in_ok-root.root) = rw c.in-None.is at c.in_ok-found.ensures.none in
    let here : IsTooLarge (direct local w) (key_at ts key) = subst (λ (k : KeyNode). IsTooLarge (direct local w) (key_at ts k)) c.in_ok-root.ensures none in
    IfOk-weaker c.too_large.result _ _
    (λ judged e. subst (λ (j : Judged). IsVerdict local w (key_at ts key) (verdict_at us j)) (sym e)
    (inl (record { none = here; itself = key-grown ts us c.closure.ensures.grows key c.requires.within; large = refl })))
    c.too_large.ensures

use Rattle.std.proofs.Common.{Bool, List, ap, ◌∙◌, sym, subst, arith}
use Rattle.type_subs.specs.Notes.{IsNoted, level_has_canon}
use Rattle.type_subs.proofs.NoteLemmas.{next_noted}
use Rattle.type_subs.proofs.canons.note_next.Goals as goal

pub returns-clause-noted : goal.returns-clause-noted
returns-clause-noted c =
    let w = c.args.world.now in let ts = c.args.pool.now in let node = c.node.result.now in
    let found = c.in_level-found.ensures ∙ ap (λ (l : List Bool). level_has_canon w l node) c.as_slice.ensures in
    subst (λ (l : List Bool). IsNoted w ts l) (sym c.in_ok-push.ensures.ok)
    (next_noted w ts c.args.flags.now c.requires.noted c.args.next node c.in_level-found.result c.requires.next (omega (arith, c.requires.next, c.requires.more)) c.node.ensures.level c.node.ensures.below found)

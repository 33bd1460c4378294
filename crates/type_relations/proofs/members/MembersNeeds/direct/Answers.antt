use Rattle.std.proofs.Common.{◌≡◌, ◌++◌, ◌∷◌, [], false, map, ap, ◌∙◌, sym}
use Rattle.std.proofs.lemmas.Result.{IfOk-weaker}
use Rattle.type_tree.specs.declared.tree.Key.{Key}
use Rattle.type_tree.specs.declared.tree.Key.TheVariants.{Tree}
use Rattle.type_tree.specs.Canon.{canon, canon_ty}
use Rattle.type_pool.specs.Keys.{key_at}
use Rattle.type_pool.proofs.JobLemmas.{noted-grown}
use Rattle.key_closure.proofs.NodeTurns.{key-grown, key_below-grown}
use Rattle.type_relations.specs.Relations.{stands_on}
use Rattle.type_relations.proofs.members.MembersNeeds.direct.Goals as goal

pub returns-then-branch-clause-noted : goal.returns-then-branch-clause-noted
returns-then-branch-clause-noted g c =
    (noted-grown c.args.pool.now c.has_fault.new.pool c.has_fault.ensures.grows (canon_ty c.args.world.now) c.args.notes.now.canonical c.requires.noted.0, c.in_ok-has_fault.ensures.right)

pub members_of-requires-clause-within : goal.members_of-requires-clause-within
members_of-requires-clause-within g c = key_below-grown c.args.pool.now c.has_fault.new.pool c.has_fault.ensures.grows c.args.key.now c.requires.within

pub members_of-requires-clause-noted : goal.members_of-requires-clause-noted
members_of-requires-clause-noted g c = noted-grown c.args.pool.now c.has_fault.new.pool c.has_fault.ensures.grows (canon_ty c.args.world.now) c.args.notes.now.canonical c.requires.noted.0

pub returns-clause-spells : goal.returns-clause-spells
returns-clause-spells g c =
    let w = c.args.world.now in
    let same : key_at c.has_fault.new.pool c.args.key.now ≡ key_at c.args.pool.now c.args.key.now = key-grown c.args.pool.now c.has_fault.new.pool c.has_fault.ensures.grows c.args.key.now c.requires.within in
    let none : g.F.Faults.faulty c.args.self.now.faults w (key_at c.args.pool.now c.args.key.now) ≡ false = sym c.in_ok-has_fault.ensures.is ∙ c.if-branch.false in
    IfOk-weaker c.members_of.result _ _
    (λ keys are. rw none (are ∙ ap (λ (k : Key). map Tree (stands_on w k) ++ canon w k ∷ []) same))
    c.members_of.ensures.spells

use Rattle.std.proofs.Common.{◌≡◌, Some, ap, ◌∙◌, sym, subst}
use Rattle.type_tree.specs.declared.definition.Def.{Def}
use Rattle.type_tree.specs.Kinds.{head_of}
use Rattle.method_slots.specs.Chains as chains
use Rattle.slot_chains.specs.Levels.{OwnersNoted}
use Rattle.slot_chains.proofs.LevelLemmas.{parents_is}
use Rattle.slot_chains.proofs.NoteLemmas.{numbers-noted, notes-grown, notes-kept, noted-same, grow-kept, grow-same, grow-trans}
use Rattle.slot_chains.proofs.OwnerLemmas.{handed-owners, chain-owners}
use Rattle.slot_chains.proofs.ShortLemmas.{ok_of}
use Rattle.slot_chains.proofs.walk.finish.Goals as goal

pub next_level-requires-clause-noted : goal.next_level-requires-clause-noted
next_level-requires-clause-noted c = numbers-noted c.args.world.now c.args.pool.now c.args.notes.now c.requires.notes

pub next_level-requires-clause-owners : goal.next_level-requires-clause-owners
next_level-requires-clause-owners c =
    let w = c.args.world.now in
    let d : Def = c.args.def.now in
    let places = c.args.notes.now.places in
    subst (OwnersNoted places) (sym (parents_is w c.args.id.0 d c.requires.def.here c.requires.def.within))
    (handed-owners places (chains.chain chains.longest_chain w) d.parent (λ p e. chain-owners w places c.requires.notes.chains chains.longest_chain p (c.requires.parent p e)))

pub returns-clause-notes : goal.returns-clause-notes
returns-clause-notes c =
    let w = c.args.world.now in
    let n = c.args.id.0 in
    let d : Def = c.args.def.now in
    let old = c.args.notes.now in
    let mid = c.next_level.new.notes in
    let made = c.in_ok-level.ensures in
    let grown = notes-grown w c.args.pool.now c.next_level.new.pool old mid c.requires.notes made.grows made.set_grows made.same in
    ok_of c.keep.result c.keep.ensures (λ place kept. notes-kept w c.next_level.new.pool mid c.keep.new.self n c.in_ok-level.level place kept grown made.level
    (λ e p here parent. (let some : Some d ≡ Some e = sym c.requires.def.here ∙ here in
    let same : d ≡ e = cc in
    noted-same old.places mid.places made.same.places p (c.requires.parent p (ap (λ (x : Def). head_of x.parent) same ∙ parent)))))

pub returns-clause-kept : goal.returns-clause-kept
returns-clause-kept c =
    let w = c.args.world.now in
    let old = c.args.notes.now in
    let mid = c.next_level.new.notes in
    let made = c.in_ok-level.ensures in
    ok_of c.keep.result c.keep.ensures
    (λ place kept. grow-trans old mid c.keep.new.self (grow-same old mid made.same) (grow-kept w c.next_level.new.pool mid c.keep.new.self c.args.id.0 c.in_ok-level.level place kept))

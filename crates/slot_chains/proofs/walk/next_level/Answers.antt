use Rattle.std.proofs.Common.{◌∙◌, sym, subst}
use Rattle.type_tree.specs.declared.definition.Def.{Def}
use Rattle.type_pool.specs.Trees.{Spells}
use Rattle.method_slots.specs.Slots.{variables}
use Rattle.type_tree.specs.declared.tree.Ty.TheVariants as ty
use Rattle.method_slots.proofs.VirtualLemmas.{opens_refl}
use Rattle.slot_chains.proofs.LevelHanding.{handed-grown, interface-level}
use Rattle.slot_chains.proofs.ShortLemmas.{five_ok}
use Rattle.slot_chains.proofs.walk.next_level.Goals as goal

pub returns-then-is_interface-clause-level : goal.returns-then-is_interface-clause-level
returns-then-is_interface-clause-level c =
    let w = c.args.world.now in
    let n = c.args.id.0 in
    let d : Def = c.args.def.now in
    let made = c.interface_level.ensures in
    let is = sym c.is_interface.ensures ∙ c.if-is_interface.true in
    let p1 = c.handed.new.pool in
    let p2 = c.own_tree.new.pool in
    let os = c.handed.new.notes.set in
    let given = handed-grown w p1 p2 os os c.in_ok-own.ensures.grows (opens_refl os) n d c.in_ok-given.given c.in_ok-given.ensures.handed in
    let tree = subst (λ m. Spells p2 c.in_ok-own.own (ty.Inst c.args.id (variables m))) c.len.ensures c.in_ok-own.ensures.spells in
    five_ok c.interface_level.result made.chain made.keys made.entries made.numbers made.finals
    (λ level chain keys entries numbers finals. interface-level w p2 os n d c.in_ok-given.given c.in_ok-own.own level c.requires.def is given tree chain keys entries numbers finals)

pub class_level-requires-clause-given : goal.class_level-requires-clause-given
class_level-requires-clause-given c =
    let os = c.handed.new.notes.set in
    handed-grown c.args.world.now c.handed.new.pool c.own_tree.new.pool os os c.in_ok-own.ensures.grows (opens_refl os) c.args.id.0 c.args.def.now c.in_ok-given.given c.in_ok-given.ensures.handed

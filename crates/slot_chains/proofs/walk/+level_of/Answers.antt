use Rattle.std.proofs.Common.{◌≡◌, suc, ◌-◌, true, sym, subst, arith}
use Rattle.type_tree.specs.declared.definition.Def.{Def}
use Rattle.method_slots.specs.Chains as chains
use Rattle.slot_chains.proofs.ChainLemmas.{Extends, within-some, within-raised, within-above}
use Rattle.slot_chains.proofs.walk.+level_of.Goals as goal

pub overflow_sub-room : goal.overflow_sub-room
overflow_sub-room t c = within-some c.args.world.now c.args.room c.args.id.0 c.requires.within

pub level_of-requires : goal.level_of-requires
level_of-requires t c =
    let w = c.args.world.now in
    let n = c.args.id.0 in
    let d : Def = c.def_of-def.result.now in
    let p = c.in-Some-parent_def.parent.0 in
    let some = within-some w c.args.room n c.requires.within in
    let less : c.args.room ≡ suc (c.args.room - 1) = omega (arith, some) in
    let extends : Extends w n p = record { def = d; here = c.def_of-def.ensures.here; parent = sym c.in-Some-parent_def.ensures } in
    let within = within-above w (c.args.room - 1) n p (subst (λ k. chains.chain_within k w n ≡ true) less c.requires.within) extends in
    (omega (arith, some), (c.def_of-def.ensures.parent p (sym c.in-Some-parent_def.ensures), (within, (omega arith, c.requires.notes))))

pub finish-requires-clause-def : goal.finish-requires-clause-def
finish-requires-clause-def t c = record { here = c.def_of-def.ensures.here; within = within-raised c.args.world.now c.args.room c.args.id.0 c.requires.room c.requires.within; few = c.def_of-def.ensures.few }

pub finish-requires-in-None-clause-def : goal.finish-requires-in-None-clause-def
finish-requires-in-None-clause-def t c = record { here = c.def_of-def.ensures.here; within = within-raised c.args.world.now c.args.room c.args.id.0 c.requires.room c.requires.within; few = c.def_of-def.ensures.few }

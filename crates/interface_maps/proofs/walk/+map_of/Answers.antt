use Rattle.std.proofs.Common.{◌≡◌, suc, ◌-◌, true, sym, subst, arith}
use Rattle.type_tree.specs.declared.definition.Def.{Def}
use Rattle.method_slots.specs.Chains as chains
use Rattle.slot_chains.proofs.ChainLemmas.{Extends, within-some, within-raised, within-above}
use Rattle.slot_chains.proofs.ShortLemmas.{ok_of}
use Rattle.interface_maps.proofs.MapLemmas.{base-grown, maps-grown, maps-kept}
use Rattle.interface_maps.proofs.walk.+map_of.Goals as goal

pub overflow_sub-room : goal.overflow_sub-room
overflow_sub-room t c = within-some c.args.world.now c.args.room c.args.id.0 c.requires.within

pub map_of-requires : goal.map_of-requires
map_of-requires t c =
    let w = c.args.world.now in
    let n = c.args.id.0 in
    let d : Def = c.def_of-def.result.now in
    let p = c.in-Some-parent_def.parent.0 in
    let some = within-some w c.args.room n c.requires.within in
    let less : c.args.room ≡ suc (c.args.room - 1) = omega (arith, some) in
    let extends : Extends w n p = record { def = d; here = c.def_of-def.ensures.here; parent = sym c.in-Some-parent_def.ensures } in
    let within = within-above w (c.args.room - 1) n p (subst (λ k. chains.chain_within k w n ≡ true) less c.requires.within) extends in
    let noted = c.requires.slots.chains n p d c.requires.noted c.def_of-def.ensures.here (sym c.in-Some-parent_def.ensures) in
    (omega (arith, some), (c.def_of-def.ensures.parent p (sym c.in-Some-parent_def.ensures), (within, (omega arith, (c.requires.slots, (noted, c.requires.maps))))))

pub from_parent-requires-clause-base : goal.from_parent-requires-clause-base
from_parent-requires-clause-base t c =
    let w = c.args.world.now in
    let n = c.args.id.0 in
    base-grown c.args.pool.now c.map_of.new.pool c.in_ok-place-in-Some-parent_def.ensures.grows w c.args.slots.now n c.def_of-def.result.now (record {
      here = c.def_of-def.ensures.here;
      within = within-raised w c.args.room n c.requires.room c.requires.within;
      notes = c.requires.slots;
      noted = c.requires.noted;
    })

pub from_parent-requires-clause-place : goal.from_parent-requires-clause-place
from_parent-requires-clause-place t c = c.in_ok-place-in-Some-parent_def.ensures.maps c.in-Some-parent_def.parent.0 c.in_ok-place-in-Some-parent_def.place c.in_ok-place-in-Some-parent_def.ensures.found

pub at_root-requires-clause-base : goal.at_root-requires-clause-base
at_root-requires-clause-base t c = record {
  here = c.def_of-def.ensures.here;
  within = within-raised c.args.world.now c.args.room c.args.id.0 c.requires.room c.requires.within;
  notes = c.requires.slots;
  noted = c.requires.noted;
}

pub returns-in_ok-level-in-Some-parent_def-clause-maps : goal.returns-in_ok-level-in-Some-parent_def-clause-maps
returns-in_ok-level-in-Some-parent_def-clause-maps t c =
    let w = c.args.world.now in
    let p1 = c.map_of.new.pool in
    let p2 = c.from_parent.new.pool in
    let mid = c.map_of.new.maps in
    let made = c.in_ok-level-in-Some-parent_def.ensures in
    ok_of c.keep.result c.keep.ensures (λ place kept. maps-kept w p2 mid c.keep.new.self c.args.id.0 c.in_ok-level-in-Some-parent_def.level place kept
    (maps-grown p1 p2 made.grows w mid c.in_ok-place-in-Some-parent_def.ensures.maps) made.level)

pub returns-in_ok-level-in-None-clause-maps : goal.returns-in_ok-level-in-None-clause-maps
returns-in_ok-level-in-None-clause-maps t c =
    let w = c.args.world.now in
    let p2 = c.at_root.new.pool in
    let old = c.args.maps.now in
    let made = c.in_ok-level-in-None.ensures in
    ok_of c.keep-in-None.result c.keep-in-None.ensures (λ place kept. maps-kept w p2 old c.keep-in-None.new.self c.args.id.0 c.in_ok-level-in-None.level place kept
    (maps-grown c.args.pool.now p2 made.grows w old c.requires.maps) made.level)

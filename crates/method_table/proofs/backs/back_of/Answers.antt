use Rattle.std.proofs.Common.{◌∙◌, List, length, map, ap, ap₂, arith}
use Rattle.std.proofs.lemmas.Option.{slice_get_within}
use Rattle.type_pool.specs.Trees.{at, at_all}
use Rattle.type_pool.proofs.JobLemmas.{at-grown, at_all-grown, below-grown, grown_length}
use Rattle.type_record.specs.Naming.{choice_in}
use Rattle.interface_maps.specs.declared.answers.Interface.{Interface}
use Rattle.interface_maps.specs.Choices.{answers}
use Rattle.interface_maps.specs.Maps.{IsMap}
use Rattle.interface_maps.proofs.MapLemmas.{found-choices, map-read, slots-grown}
use Rattle.method_slots.specs.Chains.{longest_chain}
use Rattle.method_table.specs.Named.{key_named, NamesSlots}
use Rattle.method_table.specs.Tables.{chosen, slots_of}
use Rattle.method_table.proofs.Growing.{types_more}
use Rattle.method_table.proofs.SlotNaming.{choices_named, slots_at}
use Rattle.method_table.proofs.backs.back_of.Goals as goal

pub bounds-as_slice-found : goal.bounds-as_slice-found
bounds-as_slice-found c =
    let there = c.requires.notes.maps c.args.def.0 c.args.found.now.maps c.requires.found.maps in
    let inside = slice_get_within c.args.notes.now.maps.levels c.args.found.now.maps there.level there.here in
    let same = ap length c.as_slice.ensures in
    omega (arith, inside, same)

pub exact_interfaces-requires-clause-level : goal.exact_interfaces-requires-clause-level
exact_interfaces-requires-clause-level c =
    let there = c.requires.notes.maps c.args.def.0 c.args.found.now.maps c.requires.found.maps in
    map-read c.args.world.now c.args.pool.now c.args.notes.now.maps.levels c.args.def.0 c.args.found.now.maps there c.as_slice.result.now c.as_slice.ensures c.index-as_slice-found.result c.index-as_slice-found.is

pub exact_slots-requires-clause-tree : goal.exact_slots-requires-clause-tree
exact_slots-requires-clause-tree c =
    let long = grown_length c.args.pool.now c.exact_interfaces.new.pool c.in_ok-interfaces.ensures.grows.trees in
    omega (arith, long, c.requires.tree)

pub exact_slots-requires-clause-args : goal.exact_slots-requires-clause-args
exact_slots-requires-clause-args c = below-grown c.args.pool.now c.exact_interfaces.new.pool c.in_ok-interfaces.ensures.grows.trees c.args.args.now c.requires.args

pub exact_slots-requires-clause-notes : goal.exact_slots-requires-clause-notes
exact_slots-requires-clause-notes c = slots-grown c.args.pool.now c.exact_interfaces.new.pool c.in_ok-interfaces.ensures.grows.trees c.args.world.now c.args.notes.now.slots c.requires.notes.slots

pub returns-clause-back : goal.returns-clause-back
returns-clause-back c =
    let w = c.args.world.now in let n = c.args.def.0 in let ts = c.args.pool.now in let p = c.exact_interfaces.new.pool in let us = c.exact_slots.new.pool in
    let ls = c.exact_interfaces.new.keys in let ms = c.exact_slots.new.keys in
    let g = c.in_ok-interfaces.ensures.grows in
    let level = c.index-as_slice-found.result in
    let there = c.requires.notes.maps n c.args.found.now.maps c.requires.found.maps in
    let is : IsMap w ts n level = map-read w ts c.args.notes.now.maps.levels n c.args.found.now.maps there c.as_slice.result.now c.as_slice.ensures level c.index-as_slice-found.is in
    let own = at ts c.args.id in let args = at_all ts c.args.args.now in
    let entries = slots_of w own args n in
    let slots : NamesSlots us ms c.in_ok-slots.slots entries =
    slots_at us ms w n c.in_ok-slots.slots (at p c.args.id) own (at_all p c.args.args.now) args (at-grown ts p g.trees c.args.id c.requires.tree) (at_all-grown ts p g.trees c.args.args.now c.requires.args) c.in_ok-slots.ensures.named in
    let same = c.in_ok-interface_slots.ensures ∙ ap₂ (λ ss (fs : List Interface). map (λ (f : Interface). map (chosen ss) f.choices) fs) c.as_slice-2.ensures c.as_slice-3.ensures in record {
      interfaces = types_more p us ls ms g.within c.in_ok-slots.ensures.grows c.in_ok-interfaces.interfaces _ c.in_ok-interfaces.ensures.named;
      slots = slots;
      interface_slots = ap (map (map (choice_in (key_named us ms)))) same ∙ choices_named us ms c.in_ok-slots.slots entries level.found (answers longest_chain w n) slots (found-choices ts level.found (answers longest_chain w n) is.found);
    }

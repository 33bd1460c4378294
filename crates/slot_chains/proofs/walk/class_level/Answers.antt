use Rattle.std.proofs.Common.{◌≡◌, ◌∷◌, [], ◌++◌, List, length, ap, ap₂, ◌∙◌, sym, subst, arith}
use Rattle.std.proofs.lemmas.List.{map-append}
use Rattle.std.specs.List.{list_any}
use Rattle.std.specs.Option.{option_and_then}
use Rattle.std.specs.Prelude.{slice_get}
use Rattle.type_tree.specs.declared.definition.Def.{Def}
use Rattle.type_pool.specs.declared.nodes.Id.{Id}
use Rattle.type_pool.specs.Jobs.{SpellAll}
use Rattle.type_pool.specs.Trees.{at, at_all}
use Rattle.type_pool.proofs.JobLemmas.{below-one, grows_trans, spell_all-grown, spells-grown}
use Rattle.method_slots.specs.declared.entries.SlotEntry.{SlotEntry}
use Rattle.method_slots.specs.Chains as chains
use Rattle.method_slots.specs.Faults.{stands_with, overrides_final}
use Rattle.method_slots.specs.Keyed.{AreNamed, AreSlots}
use Rattle.method_slots.specs.Opens.{Open}
use Rattle.method_slots.specs.Slots.{is_final, own_methods, own_numbers}
use Rattle.method_slots.proofs.VirtualLemmas.{all_named-grown, opens_refl}
use Rattle.slot_chains.proofs.ClassLemmas.{entries-long}
use Rattle.slot_chains.proofs.LevelLemmas.{chain_is, openers_is, numbers_is, finals_is}
use Rattle.slot_chains.proofs.NumberLemmas.{finals-found}
use Rattle.slot_chains.proofs.walk.class_level.Goals as goal

-- what the own methods are found to take
given : (c : goal.After-as_slice-4) → AreSlots c.own_numbers.new.pool c.own_numbers.new.set (chains.inherited (chains.openers chains.longest_chain c.args.world.now) c.args.def.now)
    (own_methods c.args.world.now c.args.def.now) c.own_numbers.new.keys c.in_ok-numbers.numbers
given c = c.in_ok-numbers.ensures.are c.args.def.now (chains.inherited (chains.openers chains.longest_chain c.args.world.now) c.args.def.now) c.requires.def.here c.requires.given.keys

pub put_class-requires-clause-parents : goal.put_class-requires-clause-parents
put_class-requires-clause-parents c =
    let w = c.args.world.now in
    let grown = spell_all-grown c.args.pool.now c.own_numbers.new.pool c.in_ok-numbers.ensures.grows c.args.given.chain _ c.requires.given.chain in
    subst (λ (ids : List Id). SpellAll c.own_numbers.new.pool ids (chains.parents chains.longest_chain w c.args.id.0)) (sym c.as_slice-3.ensures) grown

pub put_class-requires-clause-numbers : goal.put_class-requires-clause-numbers
put_class-requires-clause-numbers c =
    let w = c.args.world.now in
    c.as_slice-4.ensures ∙ (given c).numbers ∙ sym (numbers_is w c.args.id.0 c.args.def.now c.requires.def.here c.requires.def.within c.requires.class)

pub returns-clause-level : goal.returns-clause-level
returns-clause-level c =
    let w = c.args.world.now in
    let n = c.args.id.0 in
    let d : Def = c.args.def.now in
    let here = c.requires.def.here in
    let within = c.requires.def.within in
    let p0 = c.args.pool.now in
    let p1 = c.own_numbers.new.pool in
    let p2 = c.put_class.new.pool in
    let os = c.own_numbers.new.set in
    let first = c.in_ok-numbers.ensures.grows in
    let second = c.in_ok-put_class.ensures.grows in
    let grows = grows_trans p0 p1 p2 first second in
    let ids : List Id = c.args.given.chain in
    let own = c.args.own in
    let es : List SlotEntry = c.args.given.entries in
    let slots : List Open = chains.inherited (chains.openers chains.longest_chain w) d in
    let trees = spell_all-grown p0 p2 grows ids _ c.requires.given.chain in
    let tree = spells-grown p0 p2 grows own _ c.requires.own in
    let found = c.in_ok-numbers.ensures.are d slots here c.requires.given.keys in
    let tested : c.any_final-finals.result ≡ list_any (λ number. stands_with is_final w (option_and_then (slice_get es) number)) (own_numbers slots (own_methods w d)) =
    c.any_final-finals.ensures ∙ ap₂ (λ (l : List SlotEntry) ns. list_any (λ number. stands_with is_final w (option_and_then (slice_get l) number)) ns) c.as_slice.ensures (c.as_slice-2.ensures ∙ found.numbers) in
    record {
      chain = record {
        within = rw c.in_ok-push.ensures.ok (below-one (length p2) ids own trees.within tree.within);
        are = ap (at_all p2) c.in_ok-push.ensures.ok ∙ map-append (at p2) ids (own ∷ []) ∙ ap₂ (λ us u. us ++ u ∷ []) trees.are tree.is ∙ sym (chain_is w n d here within);
      };
      keys = subst (AreNamed p2 os c.own_numbers.new.keys) (sym (openers_is w n d here within c.requires.class))
          (all_named-grown p1 p2 os os second (opens_refl os) c.own_numbers.new.keys _ found.opened);
      entries = c.in_ok-put_class.ensures.stand;
      numbers = found.numbers ∙ sym (numbers_is w n d here within c.requires.class);
      finals = tested ∙ finals-found slots w es (entries-long w d es c.requires.given.entries) (own_methods w d) (length slots) (omega arith)
          ∙ ap (λ before. list_any (overrides_final w slots before) (own_methods w d)) c.requires.given.entries ∙ sym (finals_is w n d here within c.requires.class);
    }

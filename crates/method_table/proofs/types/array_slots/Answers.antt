use Rattle.std.proofs.Common.{◌≡◌, ◌∙◌, true, rules, [], List, map, Some, refl, ap, sym}
use Rattle.std.proofs.lemmas.Result.{IfOk-weaker}
use Rattle.type_tree.specs.declared.tree.Key.TheVariants as made
use Rattle.type_tree.specs.Canon.{canon_ty}
use Rattle.type_pool.specs.Trees.{at}
use Rattle.type_pool.proofs.JobLemmas.{grows_trans, noted-grown, on_ok, spells-grown}
use Rattle.field_layout.proofs.EndNotes.{known-grown}
use Rattle.interface_maps.proofs.MapLemmas.{maps-grown, slots-grown}
use Rattle.key_closure.proofs.NodeTurns.{keys_below-grown}
use Rattle.type_record.specs.declared.loaded.SlotOf.{SlotOf}
use Rattle.type_tree.specs.declared.tree.Ty.{Ty}
use Rattle.type_record.specs.Naming.{slot_in}
use Rattle.type_relations.specs.Relations.{system_array}
use Rattle.method_table.proofs.Growing.{keys_stay}
use Rattle.method_table.proofs.Records.{array_told}
use Rattle.method_table.proofs.SlotNaming.{slots_at}
use Rattle.method_table.proofs.types.array_slots.Goals as goal

pub returns-in_err-place-clause-grows : goal.returns-in_err-place-clause-grows
returns-in_err-place-clause-grows c = keys_stay c.args.pool.now c.level_of.new.pool c.args.keys.now c.level_of.ensures.grows c.requires.keys

pub exact_slots-requires-clause-keys : goal.exact_slots-requires-clause-keys
exact_slots-requires-clause-keys c = keys_below-grown c.args.pool.now c.level_of.new.pool c.level_of.ensures.grows c.args.keys.now c.requires.keys

pub returns-clause-notes : goal.returns-clause-notes
returns-clause-notes c =
    let w = c.args.world.now in let ts = c.args.pool.now in let p = c.level_of.new.pool in let us = c.exact_slots.new.pool in
    let late = c.exact_slots.ensures.grows.trees in let g = grows_trans ts p us c.level_of.ensures.grows late in
    on_ok c.exact_slots.result (record {
      canonical = noted-grown ts us g (canon_ty w) c.args.notes.now.canonical c.requires.notes.canonical;
      layouts = known-grown w ts us g c.args.notes.now.layouts c.requires.notes.layouts;
      slots = slots-grown p us late w c.level_of.new.notes c.in_ok-place.ensures.notes;
      maps = maps-grown ts us g w c.args.notes.now.maps c.requires.notes.maps;
    })

pub returns-clause-named : goal.returns-clause-named
returns-clause-named c =
    let w = c.args.world.now in let p = c.level_of.new.pool in let us = c.exact_slots.new.pool in let ls = c.exact_slots.new.keys in
    let yes : c.is_told.result ≡ true = search rules in
    let told = array_told w (c.is_told.ensures.exists yes) (λ d here. c.is_told.ensures.told d here yes) in
    let base = spells-grown c.args.pool.now p c.level_of.ensures.grows c.args.base system_array c.requires.base in
    IfOk-weaker c.exact_slots.result _ _ (λ ss e. slots_at us ls w 19 ss (at p c.args.base) system_array [] [] base.is refl e ∙ ap (λ (l : List (SlotOf Ty)). map (slot_in Some) (map (slot_in made.Tree) l)) (sym told)) c.exact_slots.ensures.named

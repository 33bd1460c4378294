use Rattle.std.proofs.Common.{◌∙◌, List, map, Some, ap, subst, sym}
use Rattle.std.specs.Option.{option_map}
use Rattle.std.proofs.lemmas.Result.{IfOk-weaker}
use Rattle.type_tree.specs.declared.tree.Key.TheVariants as made
use Rattle.type_tree.specs.declared.tree.Ty.{Ty}
use Rattle.type_tree.specs.declared.tree.Ty.TheVariants as ty
use Rattle.type_tree.specs.Canon.{canon_ty}
use Rattle.type_pool.specs.declared.nodes.Id.{Id}
use Rattle.type_pool.specs.Trees.{at, at_all}
use Rattle.type_pool.proofs.JobLemmas.{at-grown, grows_trans, spells-grown}
use Rattle.key_closure.proofs.NodeTurns.{keys_below-grown}
use Rattle.type_record.specs.Naming.{record_in, slot_in}
use Rattle.method_table.specs.Named.{key_named, Tells}
use Rattle.method_table.specs.Tables.{array_slots, array_table}
use Rattle.method_table.proofs.Growing.{entries_more, key_more, keys_after, keys_trans}
use Rattle.method_table.proofs.NotesGrowing.{table_notes-grown}
use Rattle.method_table.proofs.Records.{array_tells}
use Rattle.method_table.proofs.types.array_record.Goals as goal

pub array_slots-requires-clause-keys : goal.array_slots-requires-clause-keys
array_slots-requires-clause-keys c = keys_below-grown c.args.pool.now c.intern.new.self c.intern.ensures.grows c.args.keys.now c.requires.keys

pub array_slots-requires-clause-notes : goal.array_slots-requires-clause-notes
array_slots-requires-clause-notes c = table_notes-grown c.args.world.now c.args.pool.now c.intern.new.self c.intern.ensures.grows c.args.notes.now c.requires.notes

pub returns-clause-tells : goal.returns-clause-tells
returns-clause-tells c =
    let w = c.args.world.now in let ts = c.args.pool.now in let p = c.intern.new.self in let us = c.array_slots.new.pool in
    let ks = c.args.keys.now in let ls = c.array_slots.new.keys in let ms = c.number_of.new.keys in let ns = c.number_of-2.new.keys in
    let g = c.in_ok-slots.ensures.grows in let h = c.in_ok-parent.ensures.grows in let j = c.in_ok-element.ensures.grows in
    let late = keys_trans us us us ls ms ns h j in
    let t = at ts c.args.id in let part = at ts c.args.part in
    let f = c.plain_front-front.result in let b = c.plain_back-back.result in
    let canon = key_more ts us ks ns c.requires.keys (keys_after ts p us ks ns c.intern.ensures.grows (keys_trans p us us ks ls ns g late)) c.args.canon (made.Tree (canon_ty w t)) c.requires.canon in
    let inner = c.in_ok-element.ensures.named ∙ ap (λ (u : Ty). Some (made.Tree u)) (at-grown ts us (grows_trans ts p us c.intern.ensures.grows g.trees) c.args.part c.requires.part) in
    let base = (spells-grown p us g.trees c.in_ok-base.base _ c.in_ok-base.ensures.spells).is ∙ ap (λ (l : List Id). ty.Inst (record { 0 = 19 }) (at_all ts l)) c.new.ensures in
    let named = key_more us us ms ns h.within j c.in_ok-parent.parent _ c.in_ok-parent.ensures.named ∙ ap (λ (u : Ty). Some (made.Tree u)) base in
    let up = ap (option_map (key_named us ns)) c.plain_front-front.ensures.parent ∙ ap Some named in
    let slots = ap (map (slot_in (key_named us ns))) c.plain_back-back.ensures.slots ∙ entries_more us us ls ns g.within late c.in_ok-slots.slots (array_slots w) c.in_ok-slots.ensures.named in
    let whole = array_tells us ns c.args.canon w t canon c.in_ok-element.element part f b inner up c.plain_front-front.ensures.args c.plain_front-front.ensures.fields c.plain_back-back.ensures.interfaces slots c.plain_back-back.ensures.interface_slots in
    IfOk-weaker c.record_of.result _ _ (λ r e. subst (λ x. Tells us ns x (record_in made.Tree (array_table w t part))) (sym e) whole) c.record_of.ensures

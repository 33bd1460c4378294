use Rattle.std.proofs.Common.{◌≡◌, ◌∙◌, Some, ap, subst, sym}
use Rattle.std.proofs.lemmas.Result.{IfOk-weaker}
use Rattle.type_tree.specs.declared.tree.Key.TheVariants as made
use Rattle.type_tree.specs.Canon.{canon_ty}
use Rattle.type_pool.specs.Trees.{at, at_all}
use Rattle.type_pool.proofs.JobLemmas.{at-grown, at_all-grown, below-grown, grows_trans, on_ok}
use Rattle.key_closure.proofs.NodeTurns.{keys_below-grown}
use Rattle.type_record.specs.Naming.{record_in}
use Rattle.field_layout.specs.Layouts.{layout_of}
use Rattle.method_table.specs.Named.{Tells}
use Rattle.method_table.specs.Tables.{form_of, inst_table, offsets_of, size_of}
use Rattle.method_table.proofs.Growing.{front_more, key_more, keys_after, keys_stay, keys_trans}
use Rattle.method_table.proofs.NotesGrowing.{found_of-grown, table_notes-grown}
use Rattle.method_table.proofs.Records.{back_at, front_at, inst_tells}
use Rattle.method_table.proofs.types.inst_record.Goals as goal

pub returns-in_err-found-clause-grows : goal.returns-in_err-found-clause-grows
returns-in_err-found-clause-grows c = keys_stay c.args.pool.now c.look_up.new.pool c.args.keys.now c.look_up.ensures.grows c.requires.keys

pub front_of-requires-clause-args : goal.front_of-requires-clause-args
front_of-requires-clause-args c = below-grown c.args.pool.now c.look_up.new.pool c.look_up.ensures.grows c.args.args.now c.requires.args

pub front_of-requires-clause-keys : goal.front_of-requires-clause-keys
front_of-requires-clause-keys c = keys_below-grown c.args.pool.now c.look_up.new.pool c.look_up.ensures.grows c.args.keys.now c.requires.keys

pub back_of-requires-clause-args : goal.back_of-requires-clause-args
back_of-requires-clause-args c =
    below-grown c.args.pool.now c.front_of.new.pool (grows_trans c.args.pool.now c.look_up.new.pool c.front_of.new.pool c.look_up.ensures.grows c.in_ok-front.ensures.grows.trees) c.args.args.now c.requires.args

pub back_of-requires-clause-notes : goal.back_of-requires-clause-notes
back_of-requires-clause-notes c = table_notes-grown c.args.world.now c.look_up.new.pool c.front_of.new.pool c.in_ok-front.ensures.grows.trees c.look_up.new.notes c.in_ok-found.ensures.notes

pub back_of-requires-clause-found : goal.back_of-requires-clause-found
back_of-requires-clause-found c =
    found_of-grown c.args.world.now c.args.pool.now c.front_of.new.pool (grows_trans c.args.pool.now c.look_up.new.pool c.front_of.new.pool c.look_up.ensures.grows c.in_ok-front.ensures.grows.trees)
    c.look_up.new.notes c.args.id c.args.def.0 c.in_ok-found.found c.requires.tree c.in_ok-found.ensures.found

pub returns-clause-notes : goal.returns-clause-notes
returns-clause-notes c =
    let p = c.look_up.new.pool in let q = c.front_of.new.pool in let us = c.back_of.new.pool in
    on_ok c.record_of.result (table_notes-grown c.args.world.now p us (grows_trans p q us c.in_ok-front.ensures.grows.trees c.in_ok-back.ensures.grows.trees) c.look_up.new.notes c.in_ok-found.ensures.notes)

pub returns-clause-tells : goal.returns-clause-tells
returns-clause-tells c d here =
    let w = c.args.world.now in let ts = c.args.pool.now in let p = c.look_up.new.pool in let q = c.front_of.new.pool in let us = c.back_of.new.pool in
    let ks = c.args.keys.now in let ls = c.front_of.new.keys in let ms = c.back_of.new.keys in
    let g = c.in_ok-front.ensures.grows in let h = c.in_ok-back.ensures.grows in
    let t = at ts c.args.id in let args = at_all ts c.args.args.now in let id = c.args.def in
    let early = c.look_up.ensures.grows in let mid = grows_trans ts p q early g.trees in
    let same : Some c.def-definition.result.now ≡ Some d = sym c.def-definition.ensures.value ∙ here in
    let def : c.def-definition.result.now ≡ d = cc in
    let laid = c.in_ok-found.ensures.found.layout in
    let offsets = c.offsets_of-offsets.ensures ∙ ap offsets_of laid in
    let front = front_more q us ls ms g.within h c.in_ok-front.front _ _ _
    (front_at w q ls c.in_ok-front.front (at_all p c.args.args.now) args c.offsets_of-offsets.result.now (offsets_of (layout_of w t)) c.def-definition.result.now d (at_all-grown ts p early c.args.args.now c.requires.args) offsets def c.in_ok-front.ensures.front) in
    let back = back_at w us ms c.in_ok-back.back (at q c.args.id) t (at_all q c.args.args.now) args id.0 (at-grown ts q mid c.args.id c.requires.tree) (at_all-grown ts q mid c.args.args.now c.requires.args) c.in_ok-back.ensures.back in
    let canon = key_more ts us ks ms c.requires.keys (keys_after ts p us ks ms early (keys_trans p q us ks ls ms g h)) c.args.canon (made.Tree (canon_ty w t)) c.requires.canon in
    let form = c.form_of-form.ensures ∙ ap (form_of w id) def in
    let size = c.size_of-size.ensures ∙ ap size_of laid in
    let whole = inst_tells w us ms t id args d c.args.canon c.in_ok-front.front c.in_ok-back.back c.form_of-form.result c.size_of-size.result form size canon front back in
    IfOk-weaker c.record_of.result _ _ (λ r e. subst (λ x. Tells us ms x (record_in made.Tree (inst_table w t id args d))) (sym e) whole) c.record_of.ensures

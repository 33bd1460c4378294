use Rattle.std.proofs.Common.{◌≡◌, true, false, ◌&&◌, Some, List, ap, ◌∙◌, sym}
use Rattle.std.proofs.lemmas.Bool.{eq-eqb}
use Rattle.std.specs.Prelude.{not, slice_get}
use Rattle.std.specs.List.{list_any}
use Rattle.std.specs.Option.{option_map_or}
use Rattle.type_tree.specs.declared.definition.Def.{Def}
use Rattle.method_slots.specs.declared.entries.SlotEntry.{SlotEntry}
use Rattle.method_slots.specs.Faults as faults
use Rattle.method_slots.specs.Slots.{is_abstract, is_abstract_type}
use Rattle.slot_chains.proofs.AnswerLemmas.{any-map}
use Rattle.slot_chains.proofs.answers.lacks_method.Goals as goal

pub returns-then-def-eq0 : goal.returns-then-def-eq0
returns-then-def-eq0 c =
    let w = c.args.world.now in
    let d : Def = c.def.result.now in
    let es : List SlotEntry = c.args.entries.now in
    let bare : is_abstract_type d ≡ false = ap not (eq-eqb _ 0 c.if-def-eq0.true) in
    let kind : option_map_or (λ (e : Def). not (is_abstract_type e)) (slice_get w.defs c.args.id.0) false ≡ true =
    ap (λ o. option_map_or (λ (e : Def). not (is_abstract_type e)) o false) c.def.ensures.value ∙ ap not bare in
    let stands : c.any_abstract.result ≡ faults.stands_abstract w c.args.id.0 =
    c.any_abstract.ensures ∙ sym (any-map (faults.stands_with is_abstract w) Some es) ∙ ap (list_any (faults.stands_with is_abstract w)) c.requires.entries in
    stands ∙ sym (ap (λ b. b && faults.stands_abstract w c.args.id.0) kind)

use Rattle.std.proofs.Common.{◌∙◌, [], ◌∷◌, ◌++◌, map, sym, ap, ap₂, arith}
use Rattle.std.proofs.lemmas.List.{map-append}
use Rattle.clr_base.proofs.Ranges.{map_more}
use Rattle.type_tree.specs.Bodies as bodies
use Rattle.code_table.specs.declared.place.Slot.{Slot}
use Rattle.code_table.proofs.table.CodeTable.open.Goals as goal

pub loop-method-preserved : goal.loop-method-preserved
loop-method-preserved c = record {
  bound = omega arith;
  done =
      let bytes = λ (s : Slot). s.bytes in
      ap (map bytes) c.in_ok-push.ensures.items
      ∙ map-append bytes c.loop-method.slots.items (c.in_ok-slot_of.field-0 ∷ [])
      ∙ ap₂ (λ xs x. xs ++ x ∷ []) c.loop-method.invariant.done (c.in_ok-slot_of.ensures ∙ c.body.ensures.value)
      ∙ sym (map_more (bodies.body c.args.world.now) c.loop-method.method);
}

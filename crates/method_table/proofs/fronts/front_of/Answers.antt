use Rattle.std.proofs.Common.{List, map, Some, ap, ◌∙◌}
use Rattle.type_tree.specs.declared.tree.Key.TheVariants as made
use Rattle.type_tree.specs.declared.tree.Ty.{Ty}
use Rattle.type_pool.proofs.JobLemmas.{at_all-grown, below-grown}
use Rattle.type_record.specs.Naming.{field_in}
use Rattle.method_table.specs.Tables.{fields_of, own_fields}
use Rattle.method_table.proofs.Growing.{keys_trans, parent_more, types_more}
use Rattle.method_table.proofs.fronts.front_of.Goals as goal

pub fields_of-requires-clause-args : goal.fields_of-requires-clause-args
fields_of-requires-clause-args c = below-grown c.args.pool.now c.parent_of.new.pool c.in_ok-parent.ensures.grows.trees c.args.args.now c.requires.args

pub returns-clause-front : goal.returns-clause-front
returns-clause-front c =
    let w = c.args.world.now in let ts = c.args.pool.now in let p = c.parent_of.new.pool in let us = c.fields_of.new.pool in
    let ks = c.numbers_of.new.keys in let ls = c.parent_of.new.keys in let ms = c.fields_of.new.keys in
    let g = c.in_ok-parent.ensures.grows in let h = c.in_ok-fields.ensures.grows in
    let same = at_all-grown ts p g.trees c.args.args.now c.requires.args in record {
      parent = parent_more p us ls ms g.within h c.in_ok-parent.parent _ c.in_ok-parent.ensures.named;
      args = types_more ts us ks ms c.in_ok-numbers.ensures.grows.within (keys_trans ts p us ks ls ms g h) c.in_ok-numbers.numbers _ c.in_ok-numbers.ensures.named;
      fields = c.in_ok-fields.ensures.named ∙ ap (λ (a : List Ty). map (field_in Some) (map (field_in made.Tree) (fields_of w a c.args.offsets.now (own_fields w c.args.def.now)))) same;
    }

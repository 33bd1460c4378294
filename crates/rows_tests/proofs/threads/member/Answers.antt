use Rattle.std.proofs.Common.{ℕ, List, Option, None, length, ap, ◌∙◌}
use Rattle.type_record.specs.declared.shape.Form.TheVariants.{Class}
use Rattle.type_record.specs.declared.loaded.FieldOf.{FieldOf}
use Rattle.type_record.specs.declared.loaded.SlotOf.{SlotOf}
use Rattle.type_record.specs.Records.{entries}
use Rattle.rows_tests.specs.Classes.{words_are}
use Rattle.rows_tests.proofs.threads.member.Goals as goal

pub returns-clause-words : goal.returns-clause-words
returns-clause-words c = c.in-Ok.ensures.entries
    ∙ (ap (λ (x : List ℕ × List ℕ × List (FieldOf ℕ) × List (SlotOf ℕ) × List (List (Option (SlotOf ℕ))) × ℕ). entries (record {
      shape = record { form = Class; args = 0; interfaces = 0; fields = x.5; slots = 0; size = 8 };
      parent = c.args.parent;
      canon = c.args.part;
      element = None;
      args = x.0;
      interfaces = x.1;
      fields = x.2;
      slots = x.3;
      interface_slots = x.4;
    })) (λ i. (c.new.ensures i, c.new-2.ensures i, c.requires.all_static i, c.new-3.ensures i, c.new-4.ensures i, c.len.ensures i)) ∙ words_are c.args.part c.args.parent (length c.args.fields))

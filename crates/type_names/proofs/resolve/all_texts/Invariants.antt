use Rattle.std.proofs.Common.{◌+◌, ◌*◌, ◌≤◌, length}
use Rattle.type_names.specs.TypeTexts.{Extends}
use Rattle.type_names.proofs.Finders.{AreTextsOf}
use Rattle.type_names.proofs.resolve.all_texts.Given as goal

abbrev pub invariant-loop-tables : goal.invariant-loop-tables
invariant-loop-tables l = record {
  extends : Extends l.fn.names l.names;
  texts : AreTextsOf l.names l.files l.tables-index l.texts;
  few : length l.names ≤ 1000 + 100663290 * l.tables-index;
}

use Rattle.type_names.proofs.Finders.{AreIndexedOf}
use Rattle.type_names.proofs.resolve.all_defs.Given as goal

abbrev pub invariant-loop-file : goal.invariant-loop-file
invariant-loop-file l = AreIndexedOf l.files l.texts l.file l.defs

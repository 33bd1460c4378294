use Rattle.type_names.proofs.AssemblyNames.{AreOthers}
use Rattle.type_names.proofs.type_finder.TypeFinder.file_named.Given as goal

abbrev pub invariant-loop-file : goal.invariant-loop-file
invariant-loop-file l = AreOthers l.self.names l.self.files.now l.self.texts l.assembly l.file

use Rattle.type_names.specs.Resolution.{core_namespace}
use Rattle.type_names.proofs.TextNumbers.{AreFirst}
use Rattle.type_names.proofs.type_texts.core_namespaces.Given as goal

abbrev pub invariant-loop-number : goal.invariant-loop-number
invariant-loop-number l = AreFirst core_namespace l.number l.fn.names l.names l.ids

use Rattle.type_names.specs.Resolution.{core_type_name}
use Rattle.type_names.proofs.TextNumbers.{AreFirst}
use Rattle.type_names.proofs.type_texts.core_names.Given as goal

abbrev pub invariant-loop-number : goal.invariant-loop-number
invariant-loop-number l = AreFirst core_type_name l.number l.fn.names l.names l.ids

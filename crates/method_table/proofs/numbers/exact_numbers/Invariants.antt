use Rattle.std.proofs.Common.{[]}
use Rattle.type_tree.specs.Subst.{subst_ty}
use Rattle.type_pool.specs.Trees.{at_all}
use Rattle.method_table.proofs.Numbering.{IsNumbering}
use Rattle.method_table.proofs.numbers.exact_numbers.Given as goal

abbrev pub invariant-loop-id : goal.invariant-loop-id
invariant-loop-id l = IsNumbering (subst_ty (at_all l.fn.pool l.args) []) l.fn.pool l.fn.keys l.ids l.id-index l.pool l.keys l.done

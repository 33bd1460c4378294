use Rattle.std.proofs.Common.{sym, ◌∙◌}
use Rattle.cli_tables.proofs.Faults.{no_zero, empty_here}
use Rattle.cli_tables.proofs.NextZero.{end_found, strictly}
use Rattle.cli_tables.proofs.text_faults.fault_at.Goals as goal

pub returns-in_default : goal.returns-in_default
returns-in_default c = no_zero c.args.heap.now c.args.at (sym c.requires.zero ∙ c.in_default.is)

pub returns-then-end-at : goal.returns-then-end-at
returns-then-end-at c = empty_here c.args.heap.now c.args.at _ (sym c.requires.zero ∙ c.in-Some.is) c.if-end-at.true

pub fault_before-requires-clause-before : goal.fault_before-requires-clause-before
fault_before-requires-clause-before c = strictly c.args.heap.now c.args.at _ (sym c.requires.zero ∙ c.in-Some.is) c.if-end-at.false

pub fault_before-requires-clause-within : goal.fault_before-requires-clause-within
fault_before-requires-clause-within c = (end_found c.args.heap.now c.args.at _ (sym c.requires.zero ∙ c.in-Some.is)).within

pub fault_before-requires-clause-zero : goal.fault_before-requires-clause-zero
fault_before-requires-clause-zero c = sym c.requires.zero ∙ c.in-Some.is

use Rattle.std.proofs.Common.{sym}
use Rattle.std.proofs.lemmas.Bool.{eq-eqb, ne_eqb}
use Rattle.cli_tables.proofs.NextZero.{here_zero, here_other}
use Rattle.cli_tables.proofs.text_faults.next_zero.Goals as goal

pub returns-then-heap-at-eq0 : goal.returns-then-heap-at-eq0
returns-then-heap-at-eq0 c = sym (here_zero c.args.heap.now c.args.at c.requires.within (eq-eqb _ 0 c.if-heap-at-eq0.true))

pub returns-else-heap-at-eq0 : goal.returns-else-heap-at-eq0
returns-else-heap-at-eq0 c = here_other c.args.heap.now c.args.at c.requires.within (ne_eqb _ 0 c.if-heap-at-eq0.false) c.args.behind (sym c.requires.behind)

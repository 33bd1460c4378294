use Rattle.type_subs.proofs.Listed.{closed_supers, alone_supers}
use Rattle.type_subs.proofs.laws.supers_by_closure.Goals as goal

pub returns-clause-closed : goal.returns-clause-closed
returns-clause-closed c = λ w t members h. closed_supers w t c.closure_once.ensures c.closure_or_too_large.ensures members h

pub returns-clause-alone : goal.returns-clause-alone
returns-clause-alone c = λ w t h. alone_supers w t c.closure_once.ensures c.closure_or_too_large.ensures h

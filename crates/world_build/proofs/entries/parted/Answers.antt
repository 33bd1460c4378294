use Rattle.world_build.proofs.EntryLemmas.{splits_parted, splits_nowhere}
use Rattle.world_build.proofs.entries.parted.Goals as goal

pub returns-clause-parts : goal.returns-clause-parts
returns-clause-parts c = splits_parted c.args.word.now c.rsplit_once.result c.rsplit_once.ensures.cases

pub returns-clause-none : goal.returns-clause-none
returns-clause-none c = splits_nowhere c.args.word.now c.rsplit_once.result c.rsplit_once.ensures.cases

use Rattle.slot_chains.proofs.NoteLemmas.{numbers-noted}
use Rattle.slot_chains.proofs.answers.slot_number_in.Goals as goal

pub number_in-requires-clause-numbers : goal.number_in-requires-clause-numbers
number_in-requires-clause-numbers c = numbers-noted c.args.world.now c.level_of.new.pool c.level_of.new.notes c.in_ok-level_of.ensures.notes

-- The parts so far are the one list whose words are those so far.
use Rattle.std.proofs.Common.{take, Some}
use Rattle.type_record.specs.TheOne.{IsTheOne}
use Rattle.type_record.specs.Sections.{AreWords}
use Rattle.type_record.proofs.reading.read_all.Given as goal

abbrev pub invariant-loop-word : goal.invariant-loop-word
invariant-loop-word g l = IsTheOne (AreWords g.W.InWord.fits g.W.InWord.entry (take l.word-index l.words)) (Some l.all)

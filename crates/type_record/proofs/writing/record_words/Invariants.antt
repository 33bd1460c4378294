-- The words so far are those of the entries so far.
use Rattle.std.proofs.Common.{◌≡◌, map, take}
use Rattle.type_record.specs.Words.{word_of}
use Rattle.type_record.proofs.writing.record_words.Given as goal

abbrev pub invariant-loop-entry : goal.invariant-loop-entry
invariant-loop-entry l = l.words.items ≡ map word_of (take l.entry-index l.entry-items)

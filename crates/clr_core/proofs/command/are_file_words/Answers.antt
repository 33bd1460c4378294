use Rattle.std.proofs.Common.{◌∙◌}
use Rattle.clr_core.proofs.FileWords.{not_none, some_words}
use Rattle.clr_core.proofs.command.are_file_words.Goals as goal

pub returns-then-words-le-MOST_FILES : goal.returns-then-words-le-MOST_FILES
returns-then-words-le-MOST_FILES c =
    c.each_is_file_word.ensures
    ∙ some_words c.args.words.now (not_none _ _ c.is_empty.ensures c.if-words-le-MOST_FILES.true.0) c.if-words-le-MOST_FILES.true.1

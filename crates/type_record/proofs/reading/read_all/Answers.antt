use Rattle.std.proofs.Common.{◌+◌, ◌++◌, ◌∷◌, [], take, get_or, Some, subst, sym}
use Rattle.std.proofs.lemmas.List.{take_more, take_all}
use Rattle.type_record.specs.TheOne.{IsTheOne}
use Rattle.type_record.specs.Sections.{AreWords}
use Rattle.type_record.proofs.WordLemmas.{none_read, one_more, none_at}
use Rattle.type_record.proofs.reading.read_all.Goals as goal

pub loop-word-init : goal.loop-word-init
loop-word-init g c =
    subst (λ xs. IsTheOne (AreWords g.W.InWord.fits g.W.InWord.entry []) (Some xs)) (sym c.new-all.ensures) (none_read g.W.InWord.fits g.W.InWord.entry)

pub loop-word-preserved : goal.loop-word-preserved
loop-word-preserved g c =
    subst (λ xs. IsTheOne (AreWords g.W.InWord.fits g.W.InWord.entry (take (c.loop-word.word-index + 1) c.args.words.now)) (Some xs)) (sym c.in_ok-push.ensures.ok)
    (subst (λ ws. IsTheOne (AreWords g.W.InWord.fits g.W.InWord.entry ws) (Some (c.loop-word.all ++ c.in-Some.part ∷ [])))
    (sym (take_more c.args.words.now c.loop-word.word-index 0 c.loop-word-test.true))
    (one_more g.W.InWord.fits g.W.InWord.entry (take c.loop-word.word-index c.args.words.now) (get_or c.args.words.now c.loop-word.word-index 0) c.loop-word.all c.in-Some.part
    c.loop-word.invariant c.in-Some.ensures))

pub returns-in_default : goal.returns-in_default
returns-in_default g c = none_at g.W.InWord.fits g.W.InWord.entry c.args.words.now c.loop-word.word-index c.loop-word-test.true c.in_default.ensures

pub returns : goal.returns
returns g c =
    subst (λ ws. IsTheOne (AreWords g.W.InWord.fits g.W.InWord.entry ws) (Some c.loop-word.all)) (take_all c.loop-word.word-index c.args.words.now c.loop-word-test.false) c.loop-word.invariant

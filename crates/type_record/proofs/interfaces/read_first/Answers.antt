use Rattle.std.proofs.Common.{length, None, Some, sym, subst}
use Rattle.type_record.specs.TheOne.{IsTheOne}
use Rattle.type_record.specs.Room.{ChoiceFits}
use Rattle.type_record.specs.Records.{choice_entry}
use Rattle.type_record.specs.Sections.{AreWords}
use Rattle.type_record.proofs.InterfaceLemmas.{count_of_first, slots_of_first, first_made, first_same}
use Rattle.type_record.proofs.interfaces.read_first.Goals as goal

pub returns-in_default-own_count : goal.returns-in_default-own_count
returns-in_default-own_count c x first = c.in_default-own_count.ensures (length x.slots) (count_of_first first)

pub returns-in-None : goal.returns-in-None
returns-in-None c x first =
    let none : IsTheOne (AreWords ChoiceFits choice_entry c.first_words.result.now) None =
    subst (IsTheOne (AreWords ChoiceFits choice_entry c.first_words.result.now)) c.in-None.is c.in_ok-read_all.ensures in
    none x.slots (slots_of_first first (c.in-Some-own_count.ensures.1 (length x.slots) (count_of_first first)) c.first_words.ensures)

pub returns-in-Some-2 : goal.returns-in-Some-2
returns-in-Some-2 c =
    let some : IsTheOne (AreWords ChoiceFits choice_entry c.first_words.result.now) (Some c.in-Some-2.slots) =
    subst (IsTheOne (AreWords ChoiceFits choice_entry c.first_words.result.now)) c.in-Some-2.is c.in_ok-read_all.ensures in (
      first_made c.in-Some.ensures.0 c.in-Some-own_count.ensures.0 c.first_words.ensures some.0,
      λ x first. first_same first (c.in-Some.ensures.1 x.interface (first.handle, sym first.word_is))
          (some.1 x.slots (slots_of_first first (c.in-Some-own_count.ensures.1 (length x.slots) (count_of_first first)) c.first_words.ensures)),
    )

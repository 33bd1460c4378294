use Rattle.std.proofs.Common.{◌≡◌, map, length, Some, None, slice_get, arith, rules, subst, sym, ap, ◌∙◌}
use Rattle.std.proofs.lemmas.Grind.{common_steps}
use Rattle.std.proofs.lemmas.List.{length-map}
use Rattle.std.specs.List.{All}
use Rattle.type_record.specs.Words.{word_of, FitsWord}
use Rattle.type_record.specs.Records.{entries}
use Rattle.type_record.proofs.EntryLemmas.{entries_room, entries_length, none_zero}
use Rattle.type_record.proofs.writing.record_words.Goals as goal

pub word-requires : goal.word-requires
word-requires c =
    let room : All FitsWord (entries c.args.rec.now) = entries_room c.args.rec.now c.requires c.in_ok-entries.ensures.numbers in
    let items : c.as_slice-entry-items.result.now ≡ entries c.args.rec.now = c.as_slice-entry-items.ensures ∙ c.in_ok-entries.ensures.entries in
    subst (All FitsWord) (sym items) room c.loop-entry.entry-index (record { number = 0; key = None }) c.loop-entry-test.true

whole : (c : goal.After-drop-entries-inside-2) → c.loop-entry.words.items ≡ map word_of (entries c.args.rec.now)
whole c = first_of (search rules, grind (arith, common_steps))

pub returns-clause-count : goal.returns-clause-count
returns-clause-count c = ap length (whole c) ∙ length-map (entries c.args.rec.now) word_of ∙ entries_length c.args.rec.now

pub returns-clause-set : goal.returns-clause-set
returns-clause-set c i w is = none_zero (entries c.args.rec.now) i w (subst (λ xs. slice_get xs i ≡ Some w) (whole c) is)

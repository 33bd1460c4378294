use Rattle.std.proofs.Common.{List, Some, length, map, ap, ◌∙◌, sym, arith}
use Rattle.std.proofs.lemmas.Option.{slice_get_within}
use Rattle.method_slots.specs.declared.entries.SlotEntry.{SlotEntry}
use Rattle.slot_chains.proofs.NoteLemmas.{level-read}
use Rattle.slot_chains.proofs.answers.slots_at.Goals as goal

pub bounds-as_slice-place : goal.bounds-as_slice-place
bounds-as_slice-place c =
    let found = c.requires.notes.all c.args.id.0 c.args.place c.requires.place in
    let inside = slice_get_within c.args.notes.now.levels c.args.place found.level found.here in
    let same = ap length c.as_slice.ensures in
    omega (arith, inside, same)

pub bad_override-requires-clause-level : goal.bad_override-requires-clause-level
bad_override-requires-clause-level c =
    (c.args.notes.now.set, level-read c.args.world.now c.args.pool.now c.args.notes.now c.requires.notes c.args.id.0 c.args.place c.requires.place c.as_slice.result.now c.as_slice.ensures c.index-as_slice-place.result c.index-as_slice-place.is)

pub lacks_method-requires-clause-entries : goal.lacks_method-requires-clause-entries
lacks_method-requires-clause-entries c =
    let is = level-read c.args.world.now c.args.pool.now c.args.notes.now c.requires.notes c.args.id.0 c.args.place c.requires.place c.as_slice.result.now c.as_slice.ensures c.index-as_slice-place.result c.index-as_slice-place.is in
    ap (λ (es : List SlotEntry). map Some es) c.as_slice-2.ensures ∙ is.entries

pub returns-clause-answer : goal.returns-clause-answer
returns-clause-answer c =
    let is = level-read c.args.world.now c.args.pool.now c.args.notes.now c.requires.notes c.args.id.0 c.args.place c.requires.place c.as_slice.result.now c.as_slice.ensures c.index-as_slice-place.result c.index-as_slice-place.is in
    record {
      overrides = sym c.in_ok-bad_override.ensures.bad ∙ c.if-branch.false;
      methods = sym c.lacks_method.ensures ∙ c.if-lacks_method.false;
      slots = ap (λ (es : List SlotEntry). map Some es) (c.in_ok-entries.ensures ∙ c.as_slice-3.ensures) ∙ is.entries;
    }

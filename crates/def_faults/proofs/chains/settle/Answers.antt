use Rattle.def_faults.proofs.Noting.{last_above, left, climbed_back, climbed_done}
use Rattle.def_faults.proofs.chains.settle.Goals as goal

pub note_below-note-requires : goal.note_below-note-requires
note_below-note-requires c =
    let k = c.loop-id in
    let from = c.requires.climbed.0 in
    last_above c.args.world.now k.path c.pop.new.self c.in-Some.id from k.note c.in-Some.ensures (k.invariant.climbed from c.requires.climbed.1)

pub loop-id-preserved : goal.loop-id-preserved
loop-id-preserved c =
    let w = c.args.world.now in
    let k = c.loop-id in
    let made = c.note_below-note in
    record {
      marked = rw c.set.ensures (left w k.marks k.path c.pop.new.self c.in-Some.id made.result c.in-Some.ensures k.invariant.marked made.ensures);
      climbed = λ from h. climbed_back w k.path c.pop.new.self c.in-Some.id from k.note made.result c.in-Some.ensures (k.invariant.climbed from h) made.ensures;
    }

pub returns-clause-note : goal.returns-clause-note
returns-clause-note c = λ from h. climbed_done c.args.world.now c.loop-id.path from c.loop-id.note c.in_default.ensures.0 (c.loop-id.invariant.climbed from h)

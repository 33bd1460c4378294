use Rattle.obj_heap.proofs.Repeats.{filled_by}
use Rattle.obj_heap.proofs.room.push_refs.Goals as goal

pub returns : goal.returns
returns c =
    rw (c.push_numbers-2.ensures.items, c.push_elements.ensures.items, c.push_numbers.ensures.items)
    (filled_by c.args.refs.now.items c.args.element.now c.args.lead c.args.times c.args.words)

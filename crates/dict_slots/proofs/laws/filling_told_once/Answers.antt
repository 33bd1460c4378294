use Rattle.node_set.proofs.Probes.{one_cell}
use Rattle.dict_slots.specs.Slots.{is_filled_on}
use Rattle.dict_slots.proofs.Signatures.{one_handle}
use Rattle.dict_slots.proofs.laws.filling_told_once.Goals as goal

pub returns : goal.returns
returns g c = λ page v paged known exact slot a b s t.
    let cells = g.P.Page.cell_count page in let all = known.sound.0 in let lawful = known.sound.1.0 page paged in let within = known.sound.1.1 in
    one_handle cells all lawful.1 (one_cell (g.P.Meaning.may page) cells (λ l x may low. (g.met.P.Nodes.node_rule page l x may low).1) all lawful) exact slot a b
    (is_filled_on cells v.seen all within exact slot a s) (is_filled_on cells v.seen all within exact slot b t)

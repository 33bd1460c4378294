use Rattle.key_rows.proofs.Pages.{HasRows, level_three, record_set}
use Rattle.key_rows.proofs.laws.loaded_whole.Goals as goal

pub returns : goal.returns
returns g c = λ page all lawful k loaded.
    let cells = g.P.Page.cell_count page in let facts = g.P.Rows.facts page in
    let rules : HasRows (g.P.Meaning.may page) cells facts (g.P.Rows.granted page) = record { nodes = g.met.P.Nodes.node_rule page; rows = g.met.P.Rows.row_rule page } in
    let three = level_three rules all lawful k loaded in
    (three, (three.0, three.1, record_set rules all lawful three.0 k three.1 loaded))

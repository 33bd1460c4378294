use Rattle.std.proofs.Common.{subst}
use Rattle.type_record.specs.declared.entry.Entry.{Entry}
use Rattle.key_rows.specs.Rows.{IsWordOf}
use Rattle.key_rows.proofs.Meaning.{same_told, same_word}
use Rattle.key_rows.proofs.Pages.{HasRows, means, cell_one}
use Rattle.key_rows.proofs.laws.word_exact.Goals as goal

pub returns : goal.returns
returns g c = λ page all lawful h w word k e spells tells set.
    let cells = g.P.Page.cell_count page in
    let rules : HasRows (g.P.Meaning.may page) cells (g.P.Rows.facts page) (g.P.Rows.granted page) = record { nodes = g.met.P.Nodes.node_rule page; rows = g.met.P.Rows.row_rule page } in
    let m = means rules all lawful h w word k spells set in
    let is = subst (λ (x : Entry _). IsWordOf cells all x word) (same_told _ m.0 e m.1 tells) m.2 in
    (is, λ other may. same_word cells all (cell_one rules all lawful) e word other is may)

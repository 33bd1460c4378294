use Rattle.std.proofs.Common.{◌≡◌, ℕ, ◌+◌, ◌-◌, subst, arith}
use Rattle.key_rows.specs.Rows.{Promise}
use Rattle.key_rows.proofs.Pages.{HasRows, means}
use Rattle.key_rows.proofs.laws.level_kept.Goals as goal

pub returns : goal.returns
returns g c = λ page all lawful h level word k low high spells set.
    let cells = g.P.Page.cell_count page in let facts = g.P.Rows.facts page in
    let rules : HasRows (g.P.Meaning.may page) cells facts (g.P.Rows.granted page) = record { nodes = g.met.P.Nodes.node_rule page; rows = g.met.P.Rows.row_rule page } in
    let same : 3 + level - 3 ≡ level = omega arith in
    subst (λ (n : ℕ). Promise cells all facts n h k) same ((means rules all lawful h (3 + level) word k spells set).3 (omega arith, omega arith))

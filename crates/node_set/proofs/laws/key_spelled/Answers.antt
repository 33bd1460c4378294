use Rattle.std.proofs.Common.{ℕ, sym, ◌∙◌, subst}
use Rattle.word_board.specs.Marks.{mark, Has}
use Rattle.node_set.specs.Keys.{Names}
use Rattle.node_set.proofs.Words.{same_node}
use Rattle.node_set.proofs.Spelling.{spelled}
use Rattle.node_set.proofs.laws.key_spelled.Goals as goal

pub returns : goal.returns
returns g c = λ page all lawful m has low n is same tag.
    let r = (g.met.P.Nodes.node_rule page all m (lawful.0 m has) low).0 in
    let e = same_node r.0 n r.2 is (sym r.1 ∙ same) in
    spelled (g.P.Page.cell_count page) all m.place n (low, is, (m.by, subst (λ (w : ℕ). Has all (mark m.place w m.by)) same has)) (subst (Names (g.P.Page.cell_count page) all) e r.3) tag

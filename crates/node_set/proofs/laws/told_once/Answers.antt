use Rattle.std.proofs.Common.{ap, refl}
use Rattle.word_board.specs.Marks.{mark}
use Rattle.word_board.specs.declared.view.Mark.{Mark}
use Rattle.node_set.proofs.Probes.{one_cell}
use Rattle.node_set.proofs.laws.told_once.Goals as goal

pub returns : goal.returns
returns g c = λ page v paged known word p q low-p low-q at-p at-q.
    let all = known.sound.0 in let reach = known.sound.1 in
    let one = one_cell (g.P.Meaning.may page) (g.P.Page.cell_count page) (λ l m may low. (g.met.P.Nodes.node_rule page l m may low).1) all (reach.0 page paged) in
    ap (λ (m : Mark). m.place) (one (mark p word at-p.0) (mark q word at-q.0) (reach.1 (mark p word at-p.0) at-p.1) (reach.1 (mark q word at-q.0) at-q.1) low-p low-q refl)

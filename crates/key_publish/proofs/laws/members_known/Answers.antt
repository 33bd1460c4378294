use Rattle.word_board.specs.Marks.{Within}
use Rattle.type_record.specs.Words.{row_word}
use Rattle.node_set.specs.Keys.{spells_on}
use Rattle.node_set.proofs.Spelling.{spells_inside}
use Rattle.key_rows.specs.Rows.{word_set_on}
use Rattle.key_publish.proofs.laws.members_known.Goals as goal

pub returns : goal.returns
returns g c = λ page seen more h root k on p there.
    let cells = g.P.Page.cell_count page in
    let w = p.2 k there in (
      w.0,
      w.1,
      (
        spells_inside cells seen w.0 k w.1.0,
        λ all lawful within. let to : Within seen all = λ m has. within m (on m has) in
            (spells_on cells seen all to w.0 k w.1.0, (root, there, (h, spells_on cells seen all to h root p.0, word_set_on cells seen all to h 7 (row_word 4 0) p.1))),
      ),
    )

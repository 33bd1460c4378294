use Rattle.std.proofs.Common.{◌+◌, sym, subst}
use Rattle.std.proofs.lemmas.Option.{get_or_from_slice_get}
use Rattle.clr_base.specs.declared.ids.Handle.{Handle}
use Rattle.word_board.specs.Boards.{view_of, page_of}
use Rattle.type_record.specs.Words.{row_word}
use Rattle.node_set.specs.Keys.{Spells}
use Rattle.key_rows.specs.Rows.{WordSet, WordMay}
use Rattle.key_rows.proofs.Levels.{level_row}
use Rattle.key_publish.proofs.Walks.{level_may}
use Rattle.key_publish.proofs.levels.raise_one.Goals as goal

pub fill-requires-clause-row : goal.fill-requires-clause-row
fill-requires-clause-row g c = let cells = g.P.Page.cell_count (page_of c.args.board.now) in let seen = (view_of c.args.seat.now).seen in let m = c.requires.may in
    let is = sym (get_or_from_slice_get c.args.handles.now c.args.member.now.part m.0 _ m.2) in
    level_row cells seen _ m.1 c.args.level c.requires.level.1 (subst (λ (h : Handle). Spells cells seen h.0 m.1) is m.3)

pub fill-requires-clause-may : goal.fill-requires-clause-may
fill-requires-clause-may g c = let page = page_of c.args.board.now in let cells = g.P.Page.cell_count page in let facts = g.P.Rows.facts page in
    let seen = (view_of c.args.seat.now).seen in let m = c.requires.may in let level = c.args.level in
    let is = sym (get_or_from_slice_get c.args.handles.now c.args.member.now.part m.0 _ m.2) in (
      m.1,
      subst (λ (h : Handle). Spells cells seen h.0 m.1) is m.3,
      m.4,
      subst (λ (h : Handle). WordMay cells seen facts h.0 m.1 (3 + level) (row_word level 0)) is (level_may cells seen facts m.0.0 m.1 level c.requires.level.0 c.requires.level.1 m.5),
    )

pub returns-clause-set : goal.returns-clause-set
returns-clause-set g c = let cells = g.P.Page.cell_count (page_of c.args.board.now) in let new = (view_of c.fill.new.seat).seen in let level = c.args.level in
    λ h at. subst (λ (x : Handle). WordSet cells new x.0 (3 + level) (row_word level 0)) (get_or_from_slice_get c.args.handles.now c.args.member.now.part h _ at) c.fill.ensures.set

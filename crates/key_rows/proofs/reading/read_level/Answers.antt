use Rattle.std.proofs.Common.{ℕ, sym, ◌∙◌, subst}
use Rattle.word_board.specs.Marks.{mark, Has, Within}
use Rattle.word_board.specs.Boards.{view_of, page_of}
use Rattle.word_board.specs.declared.view.View.{View}
use Rattle.word_board.proofs.Growing.{sees}
use Rattle.node_set.specs.Keys.{Key}
use Rattle.node_set.proofs.Spelling.{one_key}
use Rattle.key_rows.specs.Rows.{LevelSet}
use Rattle.key_rows.proofs.Pages.{HasRows, level_three, level_four, level_not_free}
use Rattle.key_rows.proofs.reading.read_level.Goals as goal

pub returns-then-stood-eq0-clause-level : goal.returns-then-stood-eq0-clause-level
returns-then-stood-eq0-clause-level g c = let page = page_of c.args.board.now in let cells = g.P.Page.cell_count page in
    let rules : HasRows (g.P.Meaning.may page) cells (g.P.Rows.facts page) (g.P.Rows.granted page) = record { nodes = g.met.P.Nodes.node_rule page; rows = g.met.P.Rows.row_rule page } in
    let old = (view_of c.args.seat.now).seen in let s = c.look-stood.ensures.none c.if-stood-eq0.true in let k = c.requires.known in
    λ j names all lawful on.
    let within = subst (λ (v : View g.row.P.Denot). Within v.seen all) s.0 on in
    let known = k.1.1 all lawful within in
    let same = one_key cells all lawful.1 c.args.key.0 k.0 j known.0 (names all lawful within) in
    subst (λ (x : Key). LevelSet cells all 3 x) same (level_three rules all lawful k.0 known.1)

pub returns-then-stood-eq0-clause-loaded : goal.returns-then-stood-eq0-clause-loaded
returns-then-stood-eq0-clause-loaded g c = let page = page_of c.args.board.now in let cells = g.P.Page.cell_count page in
    let rules : HasRows (g.P.Meaning.may page) cells (g.P.Rows.facts page) (g.P.Rows.granted page) = record { nodes = g.met.P.Nodes.node_rule page; rows = g.met.P.Rows.row_rule page } in
    let free = (c.look-stood.ensures.none c.if-stood-eq0.true).1 in let lawful = free.1.0 page c.requires.own.1 in
    λ k names level. absurd (level_not_free rules free.0 lawful c.args.key.0 k (names free.0 lawful free.1.1) (level free.0 lawful free.1.1)
    (λ x has is. free.2 x has (is ∙ sym c.row_place-place.ensures.place)))

pub returns-else-stood-eq0-clause-view : goal.returns-else-stood-eq0-clause-view
returns-else-stood-eq0-clause-view g c = let t = c.look-stood.ensures.seen c.if-stood-eq0.false in
    let saw = sees (view_of c.args.seat.now) (view_of c.look-stood.new.seat) (mark c.row_place-place.result c.look-stood.result t.0) t.1 in (saw.1, saw.2)

pub returns-else-stood-eq0-clause-level : goal.returns-else-stood-eq0-clause-level
returns-else-stood-eq0-clause-level g c = let page = page_of c.args.board.now in let cells = g.P.Page.cell_count page in
    let rules : HasRows (g.P.Meaning.may page) cells (g.P.Rows.facts page) (g.P.Rows.granted page) = record { nodes = g.met.P.Nodes.node_rule page; rows = g.met.P.Rows.row_rule page } in
    let stood = c.look-stood.result in let t = c.look-stood.ensures.seen c.if-stood-eq0.false in
    let saw = sees (view_of c.args.seat.now) (view_of c.look-stood.new.seat) (mark c.row_place-place.result stood t.0) t.1 in
    λ k names all lawful on.
    level_four rules all lawful c.args.key.0 k (names all lawful (λ x has. on x (saw.1.0 x has))) stood t.0
    (subst (λ (p : ℕ). Has all (mark p stood t.0)) c.row_place-place.ensures.place (on (mark c.row_place-place.result stood t.0) saw.0))

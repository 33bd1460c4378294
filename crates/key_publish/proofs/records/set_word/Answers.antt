use Rattle.std.proofs.Common.{ℕ, ◌/◌, ◌<◌, ◌≤◌, ◌⊎◌, ⊎_elim, get_or, None, sym, subst, arith}
use Rattle.std.proofs.lemmas.Option.{get_or_from_slice_get}
use Rattle.clr_base.specs.declared.ids.Handle.{Handle}
use Rattle.word_board.specs.Boards.{view_of, page_of}
use Rattle.type_record.specs.Words.{word_of}
use Rattle.key_rows.specs.Facts.{IsOtherWord}
use Rattle.key_rows.specs.Rows.{IsRowOf, WordSet}
use Rattle.key_publish.proofs.Entries.{planned_handle, planned_fits, planned_may, planned_at, shown_at}
use Rattle.key_publish.proofs.records.set_word.Goals as goal

other_here : (w : ℕ) → (4 ≤ w × 8 ≤ w) ⊎ (w < 4) → IsOtherWord w
other_here w either l = let x = l.0 in let y = l.1 in ⊎_elim (λ a. let b = a.1 in omega arith) (λ a. omega arith) either

pub in_handles-entry-requires : goal.in_handles-entry-requires
in_handles-entry-requires g c = let page = page_of c.args.board.now in let f = c.requires.fits in
    planned_handle (g.P.Page.cell_count page) (view_of c.args.seat.now).seen c.args.handles.now (g.P.Rows.facts page) c.args.member.now f.0 f.2 c.args.word _
    (planned_at c.as_slice.result.now c.args.member.now.record c.args.word c.as_slice.ensures c.requires.inside)

pub fill-requires-clause-row : goal.fill-requires-clause-row
fill-requires-clause-row g c = let cells = g.P.Page.cell_count (page_of c.args.board.now) in let seen = (view_of c.args.seat.now).seen in let h = c.requires.fits.2.0 in
    subst (λ (x : Handle). IsRowOf cells seen x.0 (c.args.word / 32) c.args.cell.0) (sym (get_or_from_slice_get c.args.handles.now c.args.member.now.part h.0 _ h.1)) (c.requires.row h.0 h.1)

pub fill-requires-clause-fits : goal.fill-requires-clause-fits
fill-requires-clause-fits g c = let page = page_of c.args.board.now in let f = c.requires.fits in
    planned_fits (g.P.Page.cell_count page) (view_of c.args.seat.now).seen c.args.handles.now (g.P.Rows.facts page) c.args.member.now f.0 f.2 c.args.word _
    (planned_at c.as_slice.result.now c.args.member.now.record c.args.word c.as_slice.ensures c.requires.inside) (g.P.Page.few page) c.in_handles-entry.result c.in_handles-entry.ensures

pub fill-requires-clause-may : goal.fill-requires-clause-may
fill-requires-clause-may g c = let page = page_of c.args.board.now in let f = c.requires.fits in let cells = g.P.Page.cell_count page in let seen = (view_of c.args.seat.now).seen in (
  f.0,
  shown_at cells seen c.args.handles.now c.args.member.now.part f.0 _ f.2.0,
  f.1,
  planned_may cells seen c.args.handles.now (g.P.Rows.facts page) c.args.member.now f.0 f.2 c.args.word _
      (planned_at c.as_slice.result.now c.args.member.now.record c.args.word c.as_slice.ensures c.requires.inside) (g.P.Page.few page) (other_here c.args.word c.else-word-ge4.either) _ c.in_handles-entry.result c.in_handles-entry.ensures,
)

pub returns-clause-set : goal.returns-clause-set
returns-clause-set g c = let page = page_of c.args.board.now in let f = c.requires.fits in let cells = g.P.Page.cell_count page in let new = (view_of c.fill.new.seat).seen in
    let at = planned_at c.as_slice.result.now c.args.member.now.record c.args.word c.as_slice.ensures c.requires.inside in
    λ other. let h = f.2.0 in (
      get_or c.as_slice.result.now c.args.word (record { number = 0; key = None }),
      h.0,
      c.in_handles-entry.result,
      at,
      h.1,
      c.in_handles-entry.ensures,
      planned_fits cells (view_of c.args.seat.now).seen c.args.handles.now (g.P.Rows.facts page) c.args.member.now f.0 f.2 c.args.word _ at (g.P.Page.few page) c.in_handles-entry.result c.in_handles-entry.ensures,
      subst (λ (x : Handle). WordSet cells new x.0 c.args.word (word_of c.in_handles-entry.result)) (get_or_from_slice_get c.args.handles.now c.args.member.now.part h.0 _ h.1) c.fill.ensures.set,
    )

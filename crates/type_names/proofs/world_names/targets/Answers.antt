use Rattle.std.proofs.Common.{◌≡◌, ℕ, ◌+◌, ◌<◌, Option, None, sym, ap, ◌∙◌, subst, arith}
use Rattle.std.specs.List.{range_with_len, flat_map}
use Rattle.std.specs.Option.{IfSome}
use Rattle.std.specs.Str.{bytes_eq}
use Rattle.type_names.specs.declared.resolution.DefPlace.{DefPlace}
use Rattle.image_rows.specs.Cells.{rows, rows_of}
use Rattle.core_types.specs.Names.{with_all}
use Rattle.type_names.specs.Numbering.{IsPlaced, IsSettled, missing_text}
use Rattle.type_names.specs.WorldNames.{target_in, target_of_in}
use Rattle.type_names.specs.Resolution.{resolved}
use Rattle.image_rows.specs.TypeNames.{name_of_ref}
use Rattle.type_names.proofs.Placed.{resolved_placed}
use Rattle.type_names.proofs.Targets.{lists_inside, list_read, place_inside, place_read, missing_listed, names_few, names_row, items_row}
use Rattle.type_names.proofs.world_names.targets.Goals as goal

pub bounds-resolved-file : goal.bounds-resolved-file
bounds-resolved-file c = lists_inside c.args.defs.now c.args.resolved.now c.args.file c.args.tables.now c.requires.resolved c.requires.file

pub bounds-places-row : goal.bounds-places-row
bounds-places-row c =
    let m = c.args.tables.now in
    let within : c.loop-row.row < rows m 0x01 = omega arith in
    let places = c.as_slice-places.ensures ∙ c.index-resolved-file.is
    ∙ list_read c.args.defs.now c.args.resolved.now c.args.file m c.requires.resolved c.requires.file _ in
    place_inside (resolved c.args.defs.now c.args.file m) m c.as_slice-places.result.now places c.loop-row.row within

pub target-requires-clause-room : goal.target-requires-clause-room
target-requires-clause-room c =
    let m = c.args.tables.now in
    let few = names_few (name_of_ref m) (resolved c.args.defs.now c.args.file m) c.loop-row.row c.loop-row.row c.args.names.now c.loop-row.names
    c.loop-row.invariant.names (omega arith) in
    omega arith

pub target-requires-clause-placed : goal.target-requires-clause-placed
target-requires-clause-placed c =
    let m = c.args.tables.now in
    let within : c.loop-row.row < rows m 0x01 = omega arith in
    let places = c.as_slice-places.ensures ∙ c.index-resolved-file.is
    ∙ list_read c.args.defs.now c.args.resolved.now c.args.file m c.requires.resolved c.requires.file _ in
    let read = place_read (resolved c.args.defs.now c.args.file m) m c.as_slice-places.result.now places c.loop-row.row within None in
    subst (λ (p : Option DefPlace). IfSome p (IsPlaced c.args.defs.now)) (sym read) (resolved_placed c.args.defs.now c.args.file m (c.loop-row.row + 1))

pub loop-row-preserved : goal.loop-row-preserved
loop-row-preserved c =
    let m = c.args.tables.now in
    let within : c.loop-row.row < rows m 0x01 = omega arith in
    let places = c.as_slice-places.ensures ∙ c.index-resolved-file.is
    ∙ list_read c.args.defs.now c.args.resolved.now c.args.file m c.requires.resolved c.requires.file _ in
    let read = place_read (resolved c.args.defs.now c.args.file m) m c.as_slice-places.result.now places c.loop-row.row within None in
    let texts = λ (row : ℕ). missing_text (name_of_ref m row) (resolved c.args.defs.now c.args.file m row) in
    let more = c.in_ok-target.ensures.names
    ∙ ap (λ (p : Option DefPlace). with_all bytes_eq c.loop-row.names (missing_text (name_of_ref m (c.loop-row.row + 1)) p)) read in
    let last = subst
    (λ (p : Option DefPlace). IsSettled c.target.new.names (λ ns. target_in ns c.args.defs.now (name_of_ref m (c.loop-row.row + 1)) p) c.in_ok-target.field-0)
    read c.in_ok-target.ensures.target in
    record {
      names = names_row texts c.loop-row.row c.args.names.now c.loop-row.names c.target.new.names c.loop-row.invariant.names more;
      targets =
          items_row (λ ns. target_of_in ns c.args.defs.now c.args.file m) c.loop-row.row c.loop-row.names c.target.new.names (texts (c.loop-row.row + 1))
          c.loop-row.targets _ c.in_ok-target.field-0 c.loop-row.invariant.targets more last c.in_ok-push.ensures.ok;
    }

pub returns-clause-names : goal.returns-clause-names
returns-clause-names c =
    let m = c.args.tables.now in
    let all : c.loop-row.row ≡ rows m 0x01 = omega arith in
    let f = name_of_ref m in
    let g = resolved c.args.defs.now c.args.file m in
    c.loop-row.invariant.names
    ∙ ap (λ (n : ℕ). with_all bytes_eq c.args.names.now (flat_map (λ row. missing_text (f row) (g row)) (range_with_len 1 n))) all
    ∙ ap (with_all bytes_eq c.args.names.now) (missing_listed f g (rows_of m 0x01))

pub returns-clause-few : goal.returns-clause-few
returns-clause-few c =
    let m = c.args.tables.now in
    names_few (name_of_ref m) (resolved c.args.defs.now c.args.file m) 16777215 c.loop-row.row c.args.names.now c.loop-row.names
    c.loop-row.invariant.names (omega arith)

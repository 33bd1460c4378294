use Rattle.std.proofs.Common.{ℕ, ◌+◌, ◌<◌, List, length, get_or, ap, ◌∙◌, arith}
use Rattle.std.specs.Str.{bytes_eq}
use Rattle.std.proofs.lemmas.List.FromFn.{length-map-range_with_len, get_or-map-range_with_len}
use Rattle.image_rows.specs.Cells.{rows}
use Rattle.core_types.specs.Names.{with_one, id_in}
use Rattle.image_rows.specs.TypeNames.{full_name}
use Rattle.type_names.proofs.Numbered.{names_more, ids_more, names_few}
use Rattle.type_names.proofs.world_names.number_defs.Goals as goal

pub bounds-as_slice-row : goal.bounds-as_slice-row
bounds-as_slice-row c =
    let m = c.args.tables.now in
    let count = ap length (c.as_slice.ensures ∙ c.in_ok-texts.ensures) ∙ length-map-range_with_len (full_name m) 1 (rows m 0x02) in
    omega arith

pub number-requires : goal.number-requires
number-requires c =
    let few = names_few (full_name c.args.tables.now) c.loop-row.row c.loop-row.row c.args.names.now c.loop-row.names c.loop-row.invariant.names (omega arith) in
    omega arith

pub loop-row-preserved : goal.loop-row-preserved
loop-row-preserved c =
    let m = c.args.tables.now in
    let within : c.loop-row.row < rows m 0x02 = omega arith in
    let read = c.as_str.ensures ∙ c.index-as_slice-row.is
    ∙ ap (λ (xs : List (List ℕ)). get_or xs c.loop-row.row c.index-as_slice-row.result) (c.as_slice.ensures ∙ c.in_ok-texts.ensures)
    ∙ get_or-map-range_with_len (full_name m) 1 (rows m 0x02) c.loop-row.row (c.loop-row.row + 1) c.index-as_slice-row.result within (omega arith) in
    let more = c.in_ok-number.ensures.kept ∙ ap (with_one bytes_eq c.loop-row.names) read in
    record {
      names = names_more (full_name m) c.loop-row.row c.args.names.now c.loop-row.names c.number.new.self c.loop-row.invariant.names more;
      ids =
          ids_more (full_name m) c.loop-row.row c.loop-row.names c.number.new.self c.loop-row.ids _ c.in_ok-number.field-0 c.loop-row.invariant.ids more
          (c.in_ok-number.ensures.number ∙ ap (id_in c.loop-row.names) read) c.in_ok-push.ensures.ok;
    }

pub returns-clause-few : goal.returns-clause-few
returns-clause-few c =
    names_few (full_name c.args.tables.now) 16777215 c.loop-row.row c.args.names.now c.loop-row.names c.loop-row.invariant.names (omega arith)

use Rattle.std.proofs.Common.{◌≡◌, ◌<◌, List, map, length, refl, ap, ◌∙◌, arith}
use Rattle.std.proofs.lemmas.Option.{slice_get_read}
use Rattle.cli_tables.specs.Metadata.{Metadata}
use Rattle.image_rows.specs.Cells.{rows_of}
use Rattle.type_names.specs.Resolution.{resolved}
use Rattle.type_names.proofs.Finders.{places_more, places_all}
use Rattle.type_names.proofs.resolve.resolve_files.Goals as goal

pub loop-file-preserved : goal.loop-file-preserved
loop-file-preserved c =
    let files = c.args.files.now in
    let k = c.loop-file.file in
    let m = c.index-files-file.result in
    let within : k < length files = omega arith in
    places_more files k m c.loop-file.found _ c.in_ok-file_places.field-0 (slice_get_read files (length files) k m refl within c.index-files-file.is)
    c.loop-file.invariant
    (c.in_ok-file_places.ensures ∙ ap (λ (fs : List Metadata). map (resolved fs k m) (rows_of m 0x01)) c.in_ok-types.ensures.files)
    c.in_ok-push.ensures.ok

pub returns : goal.returns
returns c =
    let all : c.loop-file.file ≡ length c.args.files.now = omega arith in
    places_all c.args.files.now c.loop-file.file c.loop-file.found all c.loop-file.invariant

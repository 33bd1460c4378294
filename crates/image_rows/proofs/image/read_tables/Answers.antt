use Rattle.std.proofs.Common.{Err, sym, ◌∙◌, ap}
use Rattle.std.proofs.lemmas.Result.{err_from_is_err_and}
use Rattle.cli_tables.specs.Metadata.{read_of}
use Rattle.image_rows.proofs.Inside.{headers_fail, headers_pass, is_inside}
use Rattle.image_rows.proofs.image.read_tables.Goals as goal

pub metadata_part-requires : goal.metadata_part-requires
metadata_part-requires c = is_inside c.args.bytes.now c.in_ok-places.places (sym c.in_ok-places.ensures)

pub returns-in_err-places : goal.returns-in_err-places
returns-in_err-places c =
    let p = err_from_is_err_and c.from_residual.result c.from_residual.ensures.1 in
    p.1 ∙ ap Err p.2 ∙ sym (headers_fail c.args.bytes.now _ (sym c.in_err-places.ensures))

pub returns : goal.returns
returns c = c.read.ensures ∙ ap read_of c.metadata_part.ensures ∙ headers_pass c.args.bytes.now c.in_ok-places.places (sym c.in_ok-places.ensures)

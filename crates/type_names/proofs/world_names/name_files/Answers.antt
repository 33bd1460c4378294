use Rattle.std.proofs.Common.{◌≡◌, ℕ, ◌<◌, List, [], length, refl, ap, ◌∙◌, subst, arith}
use Rattle.std.specs.Prelude.{slice_get}
use Rattle.std.specs.Str.{bytes_eq}
use Rattle.std.proofs.lemmas.Option.{slice_get_read}
use Rattle.cli_tables.specs.Metadata.{Metadata}
use Rattle.core_types.specs.Names.{with_all, with_one}
use Rattle.type_names.specs.Numbering.{IsSettled}
use Rattle.type_names.specs.WorldNames.{file_texts, file_names_in}
use Rattle.type_names.proofs.FileRows.{begun_few, core_count, names_all, names_file, rows_all, rows_file}
use Rattle.type_names.proofs.world_names.name_files.Goals as goal

pub number-requires : goal.number-requires
number-requires c = omega (arith, ap length (c.in_ok-reserve.ensures ∙ c.requires.core), core_count)

pub loop-file-init : goal.loop-file-init
loop-file-init c = record {
  names = refl;
  rows = record { is = λ more. c.new-rows.ensures };
  few = omega (arith, begun_few c.number.new.self c.reserve.new.self (c.in_ok-reserve.ensures ∙ c.requires.core) c.in_ok-_empty.ensures.kept);
}

pub file_names-requires-clause-file : goal.file_names-requires-clause-file
file_names-requires-clause-file c =
    let within : c.loop-file.file < length c.args.files.now = omega arith in
    ap (λ (files : List Metadata). slice_get files c.loop-file.file) c.in_ok-defs.ensures
    ∙ slice_get_read c.args.files.now (length c.args.files.now) c.loop-file.file c.index-files-file.result refl within c.index-files-file.is

pub loop-file-preserved : goal.loop-file-preserved
loop-file-preserved c =
    let files = c.args.files.now in
    let k = c.loop-file.file in
    let m = c.index-files-file.result in
    let within : k < length files = omega arith in
    let there = slice_get_read files (length files) k m refl within c.index-files-file.is in
    let more = c.in_ok-file_names.ensures.names
    ∙ ap (λ (all : List Metadata). with_all bytes_eq c.loop-file.names (file_texts all (k, m))) c.in_ok-defs.ensures in
    let last = subst (λ (all : List Metadata). IsSettled c.file_names.new.names (λ ns. file_names_in ns all k m) c.in_ok-file_names.field-0) c.in_ok-defs.ensures
    c.in_ok-file_names.ensures.rows in
    let before = c.loop-file.invariant.few in
    let added = c.in_ok-file_names.ensures.few in
    record {
      names = names_file files k m c.number.new.self c.loop-file.names c.file_names.new.names there c.loop-file.invariant.names more;
      rows =
          rows_file files k m c.loop-file.names c.file_names.new.names c.loop-file.rows _ c.in_ok-file_names.field-0 there c.loop-file.invariant.rows more last
          c.in_ok-push.ensures.ok;
      few = omega arith;
    }

pub returns-clause-names : goal.returns-clause-names
returns-clause-names c =
    let all : c.loop-file.file ≡ length c.args.files.now = omega arith in
    names_all c.args.files.now c.loop-file.file c.number.new.self c.loop-file.names all
    (c.in_ok-_empty.ensures.kept ∙ ap (λ (core : List (List ℕ)). with_one bytes_eq core []) (c.in_ok-reserve.ensures ∙ c.requires.core)) c.loop-file.invariant.names

pub returns-clause-files : goal.returns-clause-files
returns-clause-files c =
    let all : c.loop-file.file ≡ length c.args.files.now = omega arith in
    rows_all c.args.files.now c.loop-file.file c.loop-file.names c.loop-file.rows all
    (names_all c.args.files.now c.loop-file.file c.number.new.self c.loop-file.names all
    (c.in_ok-_empty.ensures.kept ∙ ap (λ (core : List (List ℕ)). with_one bytes_eq core []) (c.in_ok-reserve.ensures ∙ c.requires.core)) c.loop-file.invariant.names)
    c.loop-file.invariant.rows

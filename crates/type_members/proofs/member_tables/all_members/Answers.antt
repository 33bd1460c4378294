use Rattle.std.proofs.Common.{◌≡◌, ℕ, ◌+◌, ◌<◌, [], map, length, replicate, refl, sym, ap, ap₂, ◌∙◌, arith}
use Rattle.std.proofs.lemmas.List.{append-nil}
use Rattle.std.proofs.lemmas.Option.{slice_get_read}
use Rattle.image_rows.specs.Cells.{rows_of}
use Rattle.core_types.specs.CoreLibrary as core
use Rattle.type_members.specs.MemberTable.{core_run, run_at, run_of}
use Rattle.type_members.specs.Members.{file_methods, file_generics, file_fields}
use Rattle.type_names.specs.WorldNames.{file_names}
use Rattle.type_members.proofs.EachFile.{each_all, each_file}
use Rattle.type_members.proofs.MemberParts.{table_is}
use Rattle.type_members.proofs.PerFile.{before_more, before_none, names_count, names_numbered, names_read}
use Rattle.type_members.proofs.member_tables.all_members.Goals as goal

pub loop-file-init : goal.loop-file-init
loop-file-init c = record {
  runs = c.in_ok-table.ensures.runs ∙ ap (map core_run) c.requires.defs ∙ sym (append-nil (map core_run core.defs));
  all_methods = c.in_ok-table.ensures.methods ∙ c.requires.methods ∙ sym (append-nil core.methods);
  generics =
      c.in_ok-table.ensures.generics ∙ ap (λ ms. replicate (length ms) 0) c.requires.methods ∙ sym (append-nil (replicate (length core.methods) 0));
  all_fields = c.in_ok-table.ensures.fields;
  fields = sym (before_none c.args.files.now 0x04);
  methods = sym (before_none c.args.files.now 0x06);
  few_defs = omega (arith, before_none c.args.files.now 0x02);
  few_fields = omega arith;
  few_methods = omega arith;
}

pub bounds-names-file : goal.bounds-names-file
bounds-names-file c = omega (arith, names_count c.args.files.now c.args.names.now c.requires.names)

pub push_members-requires : goal.push_members-requires
push_members-requires c =
    let files = c.args.files.now in
    let k = c.loop-file.file in
    let m = c.index-files-file.result in
    let within : k < length files = omega arith in
    let there = slice_get_read files (length files) k m refl within c.index-files-file.is in
    let few : k < 16 = omega (arith, c.requires.few) in
    let own = c.row_count-defs.ensures.few in
    names_numbered files k m c.index-names-file.result
    (names_read files k m c.args.names.now c.index-names-file.result c.index-names-file.result there c.requires.names c.index-names-file.is) few
    c.loop-file.invariant.few_defs (omega (arith, own, c.row_count-defs.ensures.exact))

pub loop-file-preserved : goal.loop-file-preserved
loop-file-preserved c =
    let files = c.args.files.now in
    let k = c.loop-file.file in
    let m = c.index-files-file.result in
    let n = c.index-names-file.result in
    let within : k < length files = omega arith in
    let there = slice_get_read files (length files) k m refl within c.index-files-file.is in
    let named = names_read files k m c.args.names.now n n there c.requires.names c.index-names-file.is in
    let before = c.loop-file.invariant in
    let added = c.in_ok-push_members.ensures in
    let few_defs = before.few_defs in
    let few_fields = before.few_fields in
    let few_methods = before.few_methods in
    let defs = c.row_count-defs.ensures in
    let fields = c.row_count-fields.ensures in
    let methods = c.row_count-methods.ensures in
    record {
      runs =
          each_file (λ k m. map (run_of files k m) (rows_of m 0x02)) files k m (map core_run core.defs) c.loop-file.table.runs _ _ there before.runs
          (ap₂ (λ (f g : ℕ). map (run_at f g m) (rows_of m 0x02)) before.fields before.methods) (added.runs ∙ c.in_ok-push_runs.ensures);
      all_methods =
          each_file (λ k m. file_methods (file_names files k m) m) files k m core.methods c.loop-file.table.methods _ _ there before.all_methods
          (ap (λ x. file_methods x m) named) added.methods;
      generics =
          each_file (λ k m. file_generics m) files k m (replicate (length core.methods) 0) c.loop-file.table.generics _ (file_generics m) there before.generics refl
          added.generics;
      all_fields =
          each_file (λ k m. file_fields (file_names files k m) m) files k m [] c.loop-file.table.fields _ _ there before.all_fields
          (ap (λ x. file_fields x m) named) added.fields;
      fields = ap₂ ◌+◌ before.fields fields.exact ∙ sym (before_more files k 0x04 m there);
      methods = ap₂ ◌+◌ before.methods methods.exact ∙ sym (before_more files k 0x06 m there);
      few_defs = omega (arith, few_defs, defs.few, defs.exact, before_more files k 0x02 m there);
      few_fields = omega (arith, few_fields, fields.few);
      few_methods = omega (arith, few_methods, methods.few);
    }

pub returns : goal.returns
returns c =
    let files = c.args.files.now in
    let k = c.loop-file.file in
    let all : k ≡ length files = omega arith in
    let done = c.loop-file.invariant in
    table_is files c.loop-file.table.runs c.loop-file.table.methods c.loop-file.table.generics c.loop-file.table.fields
    (each_all (λ k m. map (run_of files k m) (rows_of m 0x02)) files k (map core_run core.defs) c.loop-file.table.runs all done.runs)
    (each_all (λ k m. file_methods (file_names files k m) m) files k core.methods c.loop-file.table.methods all done.all_methods)
    (each_all (λ k m. file_generics m) files k (replicate (length core.methods) 0) c.loop-file.table.generics all done.generics)
    (each_all (λ k m. file_fields (file_names files k m) m) files k [] c.loop-file.table.fields all done.all_fields)

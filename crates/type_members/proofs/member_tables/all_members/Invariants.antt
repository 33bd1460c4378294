use Rattle.std.proofs.Common.{◌≡◌, ◌*◌, ◌≤◌, ◌++◌, [], map, take, length, replicate}
use Rattle.image_rows.specs.Cells.{rows_of}
use Rattle.core_types.specs.CoreLibrary as core
use Rattle.type_members.specs.MemberTable.{core_run, of_each, run_of}
use Rattle.type_members.specs.Members.{file_methods, file_generics, file_fields}
use Rattle.type_names.specs.Resolution.{rows_before}
use Rattle.type_names.specs.WorldNames.{file_names}
use Rattle.type_members.proofs.member_tables.all_members.Given as goal

abbrev pub invariant-loop-file : goal.invariant-loop-file
invariant-loop-file l = record {
  runs : l.table.runs ≡ map core_run core.defs ++ of_each (λ k m. map (run_of l.files k m) (rows_of m 0x02)) (take l.file l.files);
  all_methods : l.table.methods ≡ core.methods ++ of_each (λ k m. file_methods (file_names l.files k m) m) (take l.file l.files);
  generics : l.table.generics ≡ replicate (length core.methods) 0 ++ of_each (λ k m. file_generics m) (take l.file l.files);
  all_fields : l.table.fields ≡ [] ++ of_each (λ k m. file_fields (file_names l.files k m) m) (take l.file l.files);
  fields : l.fields ≡ rows_before l.files l.file 0x04;
  methods : l.methods ≡ rows_before l.files l.file 0x06;
  few_defs : rows_before l.files l.file 0x02 ≤ 16777215 * l.file;
  few_fields : l.fields ≤ 16777215 * l.file;
  few_methods : l.methods ≤ 16777215 * l.file;
}

-- The members of files are few, where all their rows are.
use Rattle.std.proofs.Common.{ℕ, ◌+◌, ◌<◌, ◌^◌, List, sym, subst}
use Rattle.cli_tables.specs.Metadata.{Metadata}
use Rattle.core_types.specs.CoreTable.{core_methods}
use Rattle.type_members.specs.MemberIndexes.{AreFew}
use Rattle.type_members.specs.MemberTable.{member_table}
use Rattle.type_members.proofs.FileSums.{all_rows}
use Rattle.world_build.proofs.WorldCounts.{method_total, field_total}

pub few_members : (files : List Metadata) → core_methods + all_rows files 0x06 < 2 ^ 32 → all_rows files 0x04 < 2 ^ 32 → AreFew (member_table files)
few_members files methods fields = record {
  methods = subst (λ (n : ℕ). n < 2 ^ 32) (sym (method_total files)) methods;
  fields = subst (λ (n : ℕ). n < 2 ^ 32) (sym (field_total files)) fields;
}

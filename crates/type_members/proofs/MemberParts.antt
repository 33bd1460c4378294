-- The table of members from its parts.
use Rattle.std.proofs.Common.{◌≡◌, ℕ, ◌+◌, List, [], ◌∷◌, ◌++◌, map, length, replicate, sym, ap, ap₂, ◌∙◌}
use Rattle.std.specs.List.{range_with_len}
use Rattle.std.proofs.lemmas.List.{append_assoc}
use Rattle.cli_tables.specs.Metadata.{Metadata}
use Rattle.type_tree.specs.declared.definition.Field.{Field}
use Rattle.type_tree.specs.declared.definition.Method.{Method}
use Rattle.type_members.specs.declared.member_table.Run.{Run}
use Rattle.image_rows.specs.Cells.{rows_of}
use Rattle.core_types.specs.CoreLibrary as core
use Rattle.type_members.specs.MemberTable.{core_run, member_table, of_each, run_of}
use Rattle.type_members.specs.Members.{file_methods, file_generics, file_fields}
use Rattle.type_names.specs.WorldNames.{file_names}
use Rattle.clr_base.proofs.Ranges.{rows_more}

-- what one row more gives stands behind the others
pub push_more : {X : Type 0} (f : ℕ → X) (row : ℕ) (old before after : List X) (x : X) → before ≡ old ++ map f (range_with_len 1 row)
    → after ≡ before ++ x ∷ [] → x ≡ f (row + 1) → after ≡ old ++ map f (range_with_len 1 (row + 1))
push_more f row old before after x done added is =
    added ∙ ap₂ (λ xs y. xs ++ y ∷ []) done is ∙ append_assoc old (map f (range_with_len 1 row)) (f (row + 1) ∷ [])
    ∙ ap (λ xs. old ++ xs) (sym (rows_more f row))

pub table_is : (files : List Metadata) (runs : List Run) (methods : List Method) (generics : List ℕ) (fields : List Field)
    → runs ≡ map core_run core.defs ++ of_each (λ k m. map (run_of files k m) (rows_of m 0x02)) files
    → methods ≡ core.methods ++ of_each (λ k m. file_methods (file_names files k m) m) files
    → generics ≡ replicate (length core.methods) 0 ++ of_each (λ k m. file_generics m) files
    → fields ≡ of_each (λ k m. file_fields (file_names files k m) m) files
    → record { runs = runs; methods = methods; generics = generics; fields = fields } ≡ member_table files
unfolding member_table
table_is files runs methods generics fields runs_are methods_are generics_are fields_are = cc

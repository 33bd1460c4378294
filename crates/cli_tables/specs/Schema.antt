-- The schema of the tables as definitions read it: the columns of a table, the tables of a coded index.
use Rattle.std.specs.Prelude.{ℕ, List, [], map, Option, get_or, slice_index}
use Rattle.cli_tables.specs.declared.schema.Column.{Column}
use Rattle.cli_tables.specs.declared.schema.CodedIndex.{CodedIndex}
use Rattle.cli_tables.specs.declared.schema.CodedIndex.TheVariants.{TypeDefOrRef, HasConstant, HasCustomAttribute, HasFieldMarshal, HasDeclSecurity, MemberRefParent, HasSemantics, MethodDefOrRef, MemberForwarded, Implementation, CustomAttributeType, ResolutionScope, TypeOrMethodDef}
use Rattle.cli_tables.specs.declared.schema.TheConstants.{TABLES, CODED_TABLES, TAG_BITS}

-- the columns of a table, none where it isn't known
unfoldable pub columns : ℕ → List Column
columns table = get_or (map (λ c. c.now) TABLES) table []

-- the place of a coded index in the lists of their tables and tags
abbrev pub number_of : CodedIndex → ℕ
number_of TypeDefOrRef = 0
number_of HasConstant = 1
number_of HasCustomAttribute = 2
number_of HasFieldMarshal = 3
number_of HasDeclSecurity = 4
number_of MemberRefParent = 5
number_of HasSemantics = 6
number_of MethodDefOrRef = 7
number_of MemberForwarded = 8
number_of Implementation = 9
number_of CustomAttributeType = 10
number_of ResolutionScope = 11
number_of TypeOrMethodDef = 12

-- its tables by tag, and the bits of its tag
unfoldable pub tables_of : CodedIndex → List (Option ℕ)
tables_of coded = get_or (map (λ c. c.now) CODED_TABLES) (number_of coded) []

unfoldable pub tag_bits : CodedIndex → ℕ
tag_bits coded = slice_index TAG_BITS (number_of coded)

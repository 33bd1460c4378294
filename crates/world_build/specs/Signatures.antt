-- The signatures of a world, in their order, and where those of a file stand.
use Rattle.std.specs.Prelude.{ℕ, ◌+◌, List, [], ◌∷◌, ◌++◌, map, length, sum_by, take, Option, Some}
use Rattle.std.specs.Option.{option_map}
use Rattle.std.specs.List.{flat_map, enumerate_from}
use Rattle.cli_tables.specs.Metadata.{Metadata}
use Rattle.type_tree.specs.declared.parts.Locals.{Locals}
use Rattle.type_tree.specs.declared.tree.Key.{Key}
use Rattle.type_tree.specs.declared.tree.Key.TheVariants.{Tree}
use Rattle.type_tree.specs.declared.tree.Ty.{Ty}
use Rattle.type_tree.specs.declared.tree.Ty.TheVariants as ty
use Rattle.core_types.specs.declared.core_type.CoreType.TheVariants.{String, TypeObject}
use Rattle.type_names.specs.declared.type_rows.TypeRows.{TypeRows}
use Rattle.core_types.specs.CoreLibrary.{plain}
use Rattle.image_rows.specs.Cells.{owner_of, rows_of}
use Rattle.image_files.specs.Signatures.{listed, locals_in, row_sigs, locals_before, sigs_in}
use Rattle.type_members.specs.Trees.{tree, type_at_row}
use Rattle.world_build.specs.References.{Reader, owner_type, ref_owner, spec_key}

-- System.String, System.Type, System.String[]
unfoldable pub well_known : List Key
well_known = Tree (plain String) ∷ Tree (plain TypeObject) ∷ Tree (ty.Array (plain String)) ∷ []

-- ---- the signatures of a file

-- the type of each row of a table of types
unfoldable pub types_in : TypeRows → Metadata → ℕ → List Ty
types_in s m table = map (λ row. type_at_row s m (Some (record { table = table; row = row }))) (rows_of m table)

unfoldable pub row_types : TypeRows → Metadata → List Ty
row_types s m = types_in s m 0x02 ++ types_in s m 0x01 ++ types_in s m 0x1B

-- the type that owns each row of a table, by the column of TypeDef that has the first row of a run
unfoldable pub owners_in : TypeRows → Metadata → ℕ → ℕ → List Ty
owners_in s m column table = map (λ row. owner_type s (owner_of m column table row)) (rows_of m table)

-- the owner's type of each row of a table of members; a MethodSpec row has its method's key
unfoldable pub member_keys : Reader → List Key
member_keys w =
    map Tree (owners_in w.types w.tables 4 0x04)
    ++ map Tree (owners_in w.types w.tables 5 0x06)
    ++ map (λ row. Tree (ref_owner w row)) (rows_of w.tables 0x0A)
    ++ map (spec_key w) (rows_of w.tables 0x2B)

unfoldable pub local_keys : TypeRows → Metadata → List Key
local_keys s m = flat_map (λ row. map (λ t. Tree (tree s t)) (listed (locals_in m row))) (rows_of m 0x11)

-- the types of the rows, the arrays of these, the members, the local variables
unfoldable pub file_keys : Reader → List Key
file_keys w =
    map Tree (row_types w.types w.tables) ++ map (λ t. Tree (ty.Array t)) (row_types w.types w.tables) ++ member_keys w
    ++ local_keys w.types w.tables

-- ---- where they stand

-- the number of a file's first signature
unfoldable pub first_sig : List Metadata → ℕ → ℕ
first_sig files k = 3 + sum_by sigs_in (take k files)

-- the local variables of a StandAloneSig row, given with how many rows stand before it, where the file's signatures begin at a number
abbrev pub locals_run : Metadata → ℕ → ℕ × ℕ → Option Locals
locals_run m first (n, row) =
    option_map (λ ts. record { first = record { 0 = first + row_sigs m + locals_before m n }; count = length ts }) (locals_in m row)

unfoldable pub locals_of : Metadata → ℕ → List (Option Locals)
locals_of m first = map (locals_run m first) (enumerate_from 0 (rows_of m 0x11))

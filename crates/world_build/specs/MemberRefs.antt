-- The members of MemberRef rows, as they are noted for the rows that say the same.
use Rattle.std.specs.Prelude.{◌≡◌, ℕ, ◌==◌, ◌&&◌, List, Bool, Option, map}
use Rattle.std.specs.Option.{IfSome}
use Rattle.indexmap.specs.IndexMap.{IndexMap, get}
use Rattle.cli_tables.specs.Metadata.{Metadata}
use Rattle.type_tree.specs.declared.parts.Member.{Member}
use Rattle.world_build.specs.declared.member_refs.RefCells.{RefCells}
use Rattle.image_rows.specs.Cells.{at, rows_of}
use Rattle.world_build.specs.References.{Reader, member_ref}

-- the members of all rows
abbrev pub members_of_refs : Reader → List Member
members_of_refs w = map (member_ref w) (rows_of w.tables 0x0A)

-- what a row says
abbrev pub cells_of : Metadata → ℕ → RefCells
cells_of m row = record { class = at m 0x0A row 0; name = at m 0x0A row 1; signature = at m 0x0A row 2 }

abbrev pub same_cells : RefCells → RefCells → Bool
same_cells a b = a.class == b.class && (a.name == b.name && a.signature == b.signature)

abbrev pub noted_at : {S : Type 0} → IndexMap RefCells Member S → RefCells → Option Member
noted_at noted cells = get same_cells noted cells

-- What is noted of the cells of a row is the row's member.
pub record AreNoted {S : Type 0} (w : Reader) (noted : IndexMap RefCells Member S) : Type 0 where
  pub each : (row : ℕ) → IfSome (noted_at noted (cells_of w.tables row)) (λ member. member_ref w row ≡ member)

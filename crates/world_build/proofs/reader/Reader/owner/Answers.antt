use Rattle.std.proofs.Common.{◌≡◌, ℕ, ◌+◌, ◌-◌, ◌<◌, ◌≤◌, sym, ap, ◌∙◌, subst, arith}
use Rattle.cli_tables.specs.Metadata.{Metadata}
use Rattle.image_rows.specs.Cells.{owner_of, rows}
use Rattle.world_build.specs.References.{Reader}
use Rattle.type_members.proofs.MemberLists.{row_within, row_given}
use Rattle.world_build.proofs.reader.Reader.owner.Goals as goal

pub bounds-owners-row : goal.bounds-owners-row
bounds-owners-row c =
    let m = c.self.inside.tables.now in
    let tables : m ≡ c.args.self.now.tables = ap (λ (r : Reader). r.tables) c.self.view_is in
    let last : c.args.row ≤ rows m 0x06 = subst (λ (x : Metadata). c.args.row ≤ rows x 0x06) (sym tables) c.requires.last in
    let less : c.args.row - 1 < rows m 0x06 = omega (arith, c.requires.first, last) in
    row_within (owner_of m 5 0x06) (c.args.row - 1) (rows m 0x06) c.self.inside.owners c.as_slice-owners.result.now c.as_slice-owners.ensures c.self.invariant.1
    less

pub returns : goal.returns
returns c =
    let m = c.self.inside.tables.now in
    let tables : m ≡ c.args.self.now.tables = ap (λ (r : Reader). r.tables) c.self.view_is in
    let last : c.args.row ≤ rows m 0x06 = subst (λ (x : Metadata). c.args.row ≤ rows x 0x06) (sym tables) c.requires.last in
    let less : c.args.row - 1 < rows m 0x06 = omega (arith, c.requires.first, last) in
    let place : c.args.row - 1 + 1 ≡ c.args.row = omega (arith, c.requires.first) in
    row_given (owner_of m 5 0x06) (c.args.row - 1) (rows m 0x06) c.self.inside.owners c.as_slice-owners.result.now c.as_slice-owners.ensures c.self.invariant.1 less
    ∙ ap (λ (i : ℕ). owner_of m 5 0x06 i) place ∙ ap (λ (x : Metadata). owner_of x 5 0x06 c.args.row) tables

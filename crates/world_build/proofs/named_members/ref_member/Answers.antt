use Rattle.std.proofs.Common.{◌≤◌, ◌∙◌, ap, arith, sym}
use Rattle.cli_tables.specs.Metadata.{Metadata}
use Rattle.type_tree.specs.declared.parts.Member.TheVariants.{NoMember}
use Rattle.image_rows.specs.Cells.{rows}
use Rattle.world_build.proofs.RefNotes.{refs_within, ref_given, ref_there}
use Rattle.world_build.proofs.named_members.ref_member.Goals as goal

pub bounds-refs-row : goal.bounds-refs-row
bounds-refs-row c =
    let last : c.args.row ≤ rows c.args.reader.now.tables 0x0A =
    omega (arith, c.if-row-row_count.false, c.row_count.ensures.exact ∙ ap (λ (m : Metadata). rows m 0x0A) c.tables.ensures) in
    refs_within c.args.reader.now c.args.refs.now c.args.row c.requires c.if-row-lt1.false last

pub returns : goal.returns
returns c =
    let last : c.args.row ≤ rows c.args.reader.now.tables 0x0A =
    omega (arith, c.if-row-row_count.false, c.row_count.ensures.exact ∙ ap (λ (m : Metadata). rows m 0x0A) c.tables.ensures) in
    ref_given c.args.reader.now c.args.refs.now c.args.row NoMember c.requires c.if-row-lt1.false last
    ∙ sym (ref_there c.args.reader.now c.args.row c.if-row-lt1.false last)

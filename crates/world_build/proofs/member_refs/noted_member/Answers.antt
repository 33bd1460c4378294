use Rattle.std.proofs.Common.{◌∙◌, sym, ap}
use Rattle.cli_tables.specs.Metadata.{Metadata}
use Rattle.world_build.specs.MemberRefs.{cells_of}
use Rattle.world_build.proofs.RefNotes.{noted_is, noted_more}
use Rattle.world_build.proofs.member_refs.noted_member.Goals as goal

pub returns-in-Some-clause-member : goal.returns-in-Some-clause-member
returns-in-Some-clause-member c =
    noted_is c.args.reader.now c.args.noted.now c.args.row c.cells_of-cells.result c.in-Some.member.now c.requires.noted
    (c.cells_of-cells.ensures ∙ ap (λ (m : Metadata). cells_of m c.args.row) c.tables.ensures) (sym c.in-Some.ensures.value)

pub returns-clause-noted : goal.returns-clause-noted
returns-clause-noted c =
    noted_more c.args.reader.now c.args.noted.now c.insert.new.self c.args.row c.cells_of-cells.result c.in_ok-member.member c.requires.noted
    (c.cells_of-cells.ensures ∙ ap (λ (m : Metadata). cells_of m c.args.row) c.tables.ensures) c.in_ok-member.ensures
    (λ k. c.in_ok-insert.ensures.updates.0 k)

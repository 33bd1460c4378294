use Rattle.std.proofs.Common.{◌≡◌, ◌++◌, ◌+◌, ◌∙◌, ap, ap₂, map, arith}
use Rattle.std.specs.List.{range_with_len}
use Rattle.image_rows.specs.Cells.{rows}
use Rattle.type_members.specs.Definitions.{def_of}
use Rattle.type_members.specs.MemberTable.{run_at}
use Rattle.world_build.specs.References.{impls_of}
use Rattle.world_build.proofs.Pushed.{pushed}
use Rattle.world_build.proofs.file_definitions.push_definitions.Goals as goal

pub loop-row-preserved : goal.loop-row-preserved
loop-row-preserved c =
    let names = c.args.names.now in
    let w = c.args.reader.now in
    let row = c.loop-row.row + 1 in
    pushed (λ r. def_of names w.tables c.args.file (run_at c.args.fields_before c.args.methods_before w.tables r) (impls_of w r) r) c.loop-row.row _ _ _ _
    c.loop-row.invariant c.in_ok-push.ensures.ok
    (c.in_ok-def_of.ensures ∙ ap₂ (λ run impls. def_of names c.tables-tables.result.now c.args.file run impls row) c.run_of-run.ensures c.in_ok-impls.ensures
    ∙ ap (λ m. def_of names m c.args.file (run_at c.args.fields_before c.args.methods_before m row) (impls_of w row) row) c.tables-tables.ensures)

pub returns : goal.returns
returns c =
    let w = c.args.reader.now in
    let count : c.loop-row.row ≡ rows c.tables-tables.result.now 0x02 = omega arith in
    c.loop-row.invariant
    ∙ ap
    (λ n.
    c.args.defs.now
    ++ map
    (λ r. def_of c.args.names.now w.tables c.args.file (run_at c.args.fields_before c.args.methods_before w.tables r) (impls_of w r) r)
    (range_with_len 1 n))
    (count ∙ ap (λ m. rows m 0x02) c.tables-tables.ensures)

use Rattle.std.proofs.Common.{◌≡◌, true, arith, sym, subst}
use Rattle.image_rows.specs.SignatureChecks.{is_signature_by}
use Rattle.image_rows.specs.declared.signature_checks.SigKind.TheVariants as kind
use Rattle.image_files.proofs.Counted.{capped_few, no_locals, more_locals, count_few, these_locals}
use Rattle.image_files.proofs.SignedLocals.{locals_signed}
use Rattle.image_files.specs.Signatures.{locals_before}
use Rattle.image_files.proofs.counts.all_locals.Goals as goal

pub loop-row-init : goal.loop-row-init
loop-row-init c = no_locals c.args.tables.now

pub local_count-count-requires : goal.local_count-count-requires
local_count-count-requires c =
    subst (λ index. is_signature_by c.args.tables.now kind.Locals index ≡ true) (sym c.cell-index.ensures) (locals_signed c.args.tables.now c.requires c.loop-row.row (omega arith))

pub overflow_add-total : goal.overflow_add-total
overflow_add-total c =
    let total = capped_few (locals_before c.args.tables.now c.loop-row.row) in
    let count = count_few c.args.tables.now c.cell-index.result in
    omega (arith, total, count, c.loop-row.invariant, c.local_count-count.ensures)

pub loop-row-preserved : goal.loop-row-preserved
loop-row-preserved c =
    more_locals c.args.tables.now c.loop-row.row c.loop-row.total c.cell-index.result c.local_count-count.result c.min-total.result (omega arith) c.loop-row.invariant c.cell-index.ensures
    c.local_count-count.ensures c.min-total.ensures

pub returns : goal.returns
returns c = these_locals c.args.tables.now c.loop-row.row c.loop-row.total (omega arith) c.loop-row.invariant

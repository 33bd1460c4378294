use Rattle.std.proofs.Common.{arith}
use Rattle.image_files.specs.Counts.{all_locals}
use Rattle.image_files.specs.Signatures.{locals_before}
use Rattle.image_rows.specs.Cells.{rows}
use Rattle.image_files.proofs.Counted.{capped_few}
use Rattle.image_files.proofs.FewEnough.{are_below, as_few, as_many}
use Rattle.image_files.proofs.counts.Totals.with_file.Goals as goal

pub overflow_add-result : goal.overflow_add-result
overflow_add-result c = let before = are_below c.args.self c.requires.few in omega arith

pub overflow_add-result-2 : goal.overflow_add-result-2
overflow_add-result-2 c = let before = are_below c.args.self c.requires.few in omega arith

pub overflow_add-result-3 : goal.overflow_add-result-3
overflow_add-result-3 c = let before = are_below c.args.self c.requires.few in omega arith

pub overflow_add-result-4 : goal.overflow_add-result-4
overflow_add-result-4 c = let before = are_below c.args.self c.requires.few in omega arith

pub overflow_add-result-5 : goal.overflow_add-result-5
unfolding all_locals
overflow_add-result-5 c =
    let before = are_below c.args.self c.requires.few in
    let few = capped_few (locals_before c.args.tables.now (rows c.args.tables.now 0x11)) in
    omega (arith, few, c.all_locals-locals.ensures)

pub returns-clause-few : goal.returns-clause-few
returns-clause-few c =
    as_few c.args.self c.args.tables.now _ _ _ _ _ c.row_count.ensures.exact c.row_count-2.ensures.exact c.row_count-3.ensures.exact c.row_sigs.ensures.exact c.all_locals-locals.ensures

pub returns-clause-exact : goal.returns-clause-exact
returns-clause-exact c =
    as_many c.args.self c.args.tables.now _ _ _ _ _ c.row_count.ensures.exact c.row_count-2.ensures.exact c.row_count-3.ensures.exact c.row_sigs.ensures.exact c.all_locals-locals.ensures

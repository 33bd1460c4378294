use Rattle.std.proofs.Common.{sym}
use Rattle.std.proofs.lemmas.Result.{err_from_is_err_and}
use Rattle.clr_base.proofs.Checks.{outcome_value}
use Rattle.image_files.specs.Counts.{with_file, count_checks}
use Rattle.image_rows.proofs.Giving.{gives_on, gives_fault}
use Rattle.image_files.proofs.RunningOut.{image_placed}
use Rattle.image_files.proofs.ManyImages.{own_fails, counts_fail, counts_pass}
use Rattle.image_files.proofs.images.next_image.Goals as goal

pub returns-in_err-image-clause-exact : goal.returns-in_err-image-clause-exact
returns-in_err-image-clause-exact c = λ before counted.
    let p = err_from_is_err_and c.from_residual.result c.from_residual.ensures.1 in
    gives_on _ p.0 _ _ _ p.1 p.2 c.in_err-image.ensures.exact (own_fails before c.args.bytes.now)

pub returns-in_err-totals-clause-exact : goal.returns-in_err-totals-clause-exact
returns-in_err-totals-clause-exact c = λ before counted.
    let p = err_from_is_err_and c.from_residual-in_err-totals.result c.from_residual-in_err-totals.ensures.1 in
    gives_fault _ p.0 _ _ p.1 p.2
    (counts_fail before c.args.bytes.now c.in_ok-image.image c.args.totals.now c.in_ok-image.ensures.exact counted _ (sym c.in_err-totals.ensures.exact))

pub returns-in_err-totals-clause-memory : goal.returns-in_err-totals-clause-memory
returns-in_err-totals-clause-memory c = λ short. image_placed c.args.bytes.now c.in_ok-image.image c.in_ok-image.ensures.exact

pub returns-clause-exact : goal.returns-clause-exact
returns-clause-exact c = λ before counted.
    counts_pass before c.args.bytes.now c.in_ok-image.image c.args.totals.now c.in_ok-image.ensures.exact counted _ (sym c.in_ok-totals.ensures.exact)

pub returns-clause-totals : goal.returns-clause-totals
returns-clause-totals c =
    let w = with_file c.args.totals.now c.in_ok-image.image in
    outcome_value (count_checks w) w _ (sym c.in_ok-totals.ensures.exact)

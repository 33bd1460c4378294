use Rattle.rows_tests.proofs.Fitting.{fits}
use Rattle.rows_tests.proofs.circle.circle_fits.Goals as goal

pub returns : goal.returns
returns c = fits

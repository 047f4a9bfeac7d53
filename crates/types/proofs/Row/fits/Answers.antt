-- `types::Row::fits` meets its contract: all tests hold.
use mathlib.Core.Path.{ap, ◌∙◌}
use Rattle.types.specs.Ranges.{all_true, row_fits}
use Rattle.types.proofs.Row.fits.Goals as goal

pub returns : goal.returns
unfolding row_fits
returns c = c.all.ensures ∙ ap all_true c.tests-tests.ensures

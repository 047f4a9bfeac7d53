-- `types::Border::fits` meets its contract: all tests hold.
use mathlib.Core.Path.{ap, ◌∙◌}
use Rattle.types.specs.Ranges.{all_true, border_fits}
use Rattle.types.proofs.Border.fits.Goals as goal

pub returns : goal.returns
unfolding border_fits
returns c = c.all.ensures ∙ ap all_true c.tests-tests.ensures

-- `types::Header::fits` meets its contract: all tests hold.
use mathlib.Core.Path.{ap, ◌∙◌}
use Rattle.types.specs.Ranges.{all_true, header_fits}
use Rattle.types.proofs.Header.fits.Goals as goal

pub returns : goal.returns
unfolding header_fits
returns c = c.all.ensures ∙ ap all_true c.tests-tests.ensures

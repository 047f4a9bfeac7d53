-- `types::Zone::fits` meets its contract: all tests hold.
use mir.Syntax.{w64}
use mathlib.Core.Path.{ap, ◌∙◌}
use mir.Facts.{to_z-of_z}
use Rattle.types.specs.Ranges.{all_true, zone_fits}
use Rattle.types.proofs.Zone.fits.Goals as goal

pub returns : goal.returns
unfolding zone_fits
returns c = c.all.ensures ∙ ap all_true (simp (to_z-of_z {w = w64} c.ranges.raw) at c.tests-tests.ensures)

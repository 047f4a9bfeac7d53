-- `types::Row::factor_fits` meets its contract.
use mir.Syntax.{w64}
use mir.Facts.{to_z-of_z}
use Rattle.types.specs.Ranges.{factor_fits}
use Rattle.types.proofs.Row.factor_fits.Goals as goal

pub returns : goal.returns
unfolding factor_fits
returns c = simp (to_z-of_z {w = w64} c.ranges.factor) at c.inside.ensures

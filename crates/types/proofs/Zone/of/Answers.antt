-- `types::Zone::of` meets its contract.
use mir.Syntax.{w64}
use mathlib.Core.Path.{sym, ◌∙◌}
use mir.Facts.{to_z-of_z}
use Rattle.types.specs.Constructors.{zone_read}
use Rattle.types.proofs.Zone.of.Goals as goal

pub returns-then-fits : goal.returns-then-fits
unfolding zone_read
returns-then-fits c = let raw = to_z-of_z {w = w64} c.ranges.raw in
    simp (raw, sym (simp raw at c.fits.ensures) ∙ c.if-fits.true)

pub returns-else-fits : goal.returns-else-fits
unfolding zone_read
returns-else-fits c = let raw = to_z-of_z {w = w64} c.ranges.raw in
    simp (sym (simp raw at c.fits.ensures) ∙ c.if-fits.false)

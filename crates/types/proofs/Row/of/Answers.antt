-- `types::Row::of` meets its contract.
use Rattle.std.specs.Prelude.{None, Some}
use mathlib.Core.Path.{sym, ap, ◌∙◌}
use Rattle.types.specs.Constructors.{row_read}
use Rattle.types.proofs.Row.of.Goals as goal

pub of_good-requires : goal.of_good-requires
of_good-requires c = sym c.fits.ensures ∙ c.if-fits.true

pub returns-then-fits : goal.returns-then-fits
unfolding row_read
returns-then-fits c = rw (sym c.fits.ensures ∙ c.if-fits.true) (ap Some c.of_good.ensures)

pub returns-else-fits : goal.returns-else-fits
unfolding row_read
returns-else-fits c = rw (sym c.fits.ensures ∙ c.if-fits.false)

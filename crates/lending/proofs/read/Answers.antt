-- `lending::read` meets its contract: an empty sheet changes nothing (`empty_left`).
use mathlib.Core.Path.{◌∙◌}
use Rattle.reading.proofs.EmptySheet.{empty_left}
use Rattle.lending.proofs.read.Goals as goal

pub returns : goal.returns
returns c = c.read_corrected.ensures ∙ empty_left _ _ _ _ _ _

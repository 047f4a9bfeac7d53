-- `cabi::keravnoth_1_rewrite_corrected` meets its contract: what `rewrite_corrected` leaves, coded.
use mathlib.Core.Path.{ap}
use Rattle.coded.specs.Coded.{text_coded}
use Rattle.cabi.proofs.keravnoth_1_rewrite_corrected.Goals as goal

pub returns : goal.returns
returns c = rw c.code_written.ensures (ap text_coded c.rewrite_corrected.ensures)

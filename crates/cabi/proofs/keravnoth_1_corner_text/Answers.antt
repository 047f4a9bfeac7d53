-- `cabi::keravnoth_1_corner_text` meets its contract: what `corner_text` leaves, coded.
use mathlib.Core.Path.{ap}
use Rattle.coded.specs.Coded.{text_coded}
use Rattle.cabi.proofs.keravnoth_1_corner_text.Goals as goal

pub returns : goal.returns
returns c = rw c.code_written.ensures (ap text_coded c.corner_text.ensures)

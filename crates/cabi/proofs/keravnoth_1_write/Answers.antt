-- `cabi::keravnoth_1_write` meets its contract: what `write` leaves, coded.
use mathlib.Core.Path.{ap}
use Rattle.coded.specs.Coded.{text_coded}
use Rattle.cabi.proofs.keravnoth_1_write.Goals as goal

pub returns : goal.returns
returns c = rw c.code_written.ensures (ap text_coded c.write.ensures)

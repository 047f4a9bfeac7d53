-- `cabi::keravnoth_1_read_corrected` meets its contract: what `read_corrected` leaves, coded.
use mathlib.Core.Path.{ap}
use Rattle.coded.specs.Coded.{read_coded}
use Rattle.cabi.proofs.keravnoth_1_read_corrected.Goals as goal

pub returns : goal.returns
returns c = rw c.code_read.ensures (ap read_coded c.read_corrected.ensures)

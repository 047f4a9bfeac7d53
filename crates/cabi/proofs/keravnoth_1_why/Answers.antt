-- `cabi::keravnoth_1_why` meets its contract: what `why` leaves, coded.
use mathlib.Core.Path.{ap}
use Rattle.coded.specs.Coded.{explained_coded}
use Rattle.cabi.proofs.keravnoth_1_why.Goals as goal

pub returns : goal.returns
returns c = rw c.code_explained.ensures (ap explained_coded c.why.ensures)

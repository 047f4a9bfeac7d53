-- `cabi::keravnoth_1_why_marked` meets its contract: what `why_marked` leaves, coded.
use mathlib.Core.Path.{ap}
use Rattle.coded.specs.Coded.{explained_coded}
use Rattle.cabi.proofs.keravnoth_1_why_marked.Goals as goal

pub returns : goal.returns
returns c = rw c.code_explained.ensures (ap explained_coded c.why_marked.ensures)

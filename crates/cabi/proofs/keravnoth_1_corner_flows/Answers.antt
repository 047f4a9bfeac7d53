-- `cabi::keravnoth_1_corner_flows` meets its contract: what `corner_flows` leaves, coded.
use mathlib.Core.Path.{ap}
use Rattle.coded.specs.Coded.{flows_coded}
use Rattle.cabi.proofs.keravnoth_1_corner_flows.Goals as goal

pub returns : goal.returns
returns c = rw c.code_flows.ensures (ap flows_coded c.corner_flows.ensures)

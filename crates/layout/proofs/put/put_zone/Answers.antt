-- `layout::put::put_zone` meets its contract.
use mir.Facts.{to_z-of_z}
use Rattle.layout.proofs.put.put_zone.Goals as goal

pub returns : goal.returns
returns c = simp (to_z-of_z, c.ranges.net) at c.put_line.ensures

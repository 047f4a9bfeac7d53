-- `claimtext::published::put_row` meets its contract.
use mir.Facts.{to_z-of_z}
use Rattle.claimtext.proofs.published.put_row.Goals as goal

pub returns : goal.returns
returns c = simp (to_z-of_z, c.ranges.ram) at c.put_line.ensures

-- `numbers::inside` meets its contract.
use mir.Syntax.{w64}
use mir.Facts.{to_z-of_z}
use Rattle.numbers.specs.Ints.{inside}
use Rattle.numbers.proofs.inside.Goals as goal

pub returns : goal.returns
unfolding inside
returns c = simp (to_z-of_z {w = w64} c.ranges.z, to_z-of_z {w = w64} c.ranges.low, to_z-of_z {w = w64} c.ranges.high)

-- `numbers::positive` meets its contract.
use mir.Facts.{to_z-of_z, Fits-nat_abs}
use Rattle.numbers.proofs.IntLaws.{above_non_neg, above_part, below_part}
use Rattle.numbers.proofs.positive.Goals as goal

pub overflow_cast-result : goal.overflow_cast-result
overflow_cast-result c = simp (to_z-of_z, c.ranges.z) (above_non_neg c.args.z (simp (to_z-of_z, c.ranges.z) at c.if-z-gt0.true), Fits-nat_abs tt c.ranges.z)

pub returns-then-z-gt0 : goal.returns-then-z-gt0
returns-then-z-gt0 c = simp (to_z-of_z, c.ranges.z) (above_part c.args.z (simp (to_z-of_z, c.ranges.z) at c.if-z-gt0.true))

pub returns-else-z-gt0 : goal.returns-else-z-gt0
returns-else-z-gt0 c = below_part c.args.z (simp (to_z-of_z, c.ranges.z) at c.if-z-gt0.false)

-- `types::exists` meets its contract: the cast is made only where the number is not below 0.
use mir.Syntax.{w64}
use mir.Facts.{to_z-of_z, Fits-nat_abs}
use Rattle.types.specs.Ranges.{exists}
use Rattle.types.proofs.RangeLaws.{not_below, exists_test}
use Rattle.types.proofs.exists.Goals as goal

pub overflow_cast-result : goal.overflow_cast-result
overflow_cast-result c = simp (to_z-of_z {w = w64} c.ranges.z) (not_below c.args.z (simp (to_z-of_z {w = w64} c.ranges.z) at c.if-not-z.true-raw), Fits-nat_abs tt c.ranges.z)

pub returns-then-not-z : goal.returns-then-not-z
returns-then-not-z c = let z = to_z-of_z {w = w64} c.ranges.z in simp z (exists_test c.args.zones c.args.z (simp z at c.if-not-z.true-raw))

pub returns-else-not-z : goal.returns-else-not-z
unfolding exists
returns-else-not-z c = let z = to_z-of_z {w = w64} c.ranges.z in
    simp (z, simp z at c.if-not-z.false-raw)

-- `claims::is_flagged` meets its contract: the cast is made only where the number is not below 0.
use mir.Syntax.{w64}
use mathlib.Core.Path.{ap}
use mathlib.Core.Bool.{not}
use mir.Facts.{to_z-of_z, Fits-nat_abs}
use Rattle.types.proofs.RangeLaws.{not_below}
use Rattle.claims.proofs.NameLaws.{flagged_negative, flagged_here, flagged_beyond}
use Rattle.claims.proofs.is_flagged.Goals as goal

pub returns-then-row-lt0 : goal.returns-then-row-lt0
returns-then-row-lt0 c = let z = to_z-of_z {w = w64} c.ranges.row in flagged_negative _ _ (simp z at c.if-row-lt0.true)

pub overflow_cast-i : goal.overflow_cast-i
overflow_cast-i c = simp (to_z-of_z {w = w64} c.ranges.row) (not_below c.args.row (ap not (simp (to_z-of_z {w = w64} c.ranges.row) at c.if-row-lt0.false)), Fits-nat_abs tt c.ranges.row)

pub returns-then-i-flags : goal.returns-then-i-flags
returns-then-i-flags c = let z = to_z-of_z {w = w64} c.ranges.row in simp z (flagged_here c.args.flags.now c.args.row (simp z at c.if-row-lt0.false) (simp z at c.if-i-flags.true))

pub returns : goal.returns
returns c = let z = to_z-of_z {w = w64} c.ranges.row in flagged_beyond c.args.flags.now c.args.row (simp z at c.if-row-lt0.false) (simp z at c.if-i-flags.false)

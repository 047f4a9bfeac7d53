-- `holding::holder` meets its contract. The invariant: no row before i has a share below its factor at b. A turn is `held_more`.
use Prim.Native.Nat.{◌-◌}
use Rattle.numbers.proofs.BelowLaws.{Looked}
use Rattle.walk.specs.Flat.{flat_of}
use Rattle.holding.proofs.HoldLaws.{under}
use Rattle.holding.proofs.holder.Given as goal

abbrev pub invariant-loop-i : goal.invariant-loop-i
invariant-loop-i l = Looked l.grid.rows (under (flat_of l.grid) l.margins l.b) l.i

abbrev pub decreases-loop-i : goal.decreases-loop-i
decreases-loop-i l = l.grid.rows - l.i

-- `walk::first_cap` meets its contract: no row before i loads the border (`Unloaded`); the first that does allows no more than its margin.
use Prim.Native.Nat.{◌-◌}
use Rattle.walk.specs.Flat.{flat_of}
use Rattle.walk.proofs.CapLaws.{Unloaded}
use Rattle.walk.proofs.first_cap.Given as goal

abbrev pub invariant-loop-i : goal.invariant-loop-i
invariant-loop-i l = Unloaded (flat_of l.grid) l.b l.i

abbrev pub decreases-loop-i : goal.decreases-loop-i
decreases-loop-i l = l.grid.rows - l.i

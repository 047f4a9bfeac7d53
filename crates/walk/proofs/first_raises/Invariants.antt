-- `walk::first_raises` meets its contract: the caps are not above what the rows before i allow (`Capped`); after the last row they are the raises.
use Prim.Native.Nat.{◌-◌}
use Rattle.walk.specs.Flat.{flat_of}
use Rattle.walk.proofs.CapLaws.{Capped}
use Rattle.walk.proofs.first_raises.Given as goal

abbrev pub invariant-loop-i : goal.invariant-loop-i
invariant-loop-i l = Capped (flat_of l.grid) l.margins l.caps (λ i. i) l.grid.rows l.i

abbrev pub decreases-loop-i : goal.decreases-loop-i
decreases-loop-i l = l.grid.rows - l.i

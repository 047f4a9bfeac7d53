-- `tight::pass::higher` meets its contract. The invariant: neither value of `low` is below the border's, and the first i rows allow no less (`Walked`).
use Prim.Native.Nat.{◌-◌}
use Rattle.walk.specs.Flat.{flat_of}
use Rattle.tightrules.proofs.PassLaws.{Walked}
use Rattle.tight.proofs.pass.higher.Given as goal

abbrev pub invariant-loop-i : goal.invariant-loop-i
invariant-loop-i l = Walked (flat_of l.grid) l.margins l.b l.i l.low

abbrev pub decreases-loop-i : goal.decreases-loop-i
decreases-loop-i l = l.grid.rows - l.i

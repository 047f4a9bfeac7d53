-- `resting::settle` meets its contract: the rows before i have lost what was gained (`Filled`). A row's loss is within its margin, and so fits.
use Prim.Native.Nat.{◌-◌}
use Rattle.numbers.proofs.ListLaws.{Filled}
use Rattle.rounds.specs.Rounds.{lowered}
use Rattle.walk.specs.Flat.{flat_of}
use Rattle.resting.proofs.settle.Given as goal

abbrev pub invariant-loop-i : goal.invariant-loop-i
invariant-loop-i l = Filled (lowered (flat_of l.grid) l.gained l.initial.margins) l.grid.rows l.initial.margins l.margins l.i

abbrev pub decreases-loop-i : goal.decreases-loop-i
decreases-loop-i l = l.grid.rows - l.i

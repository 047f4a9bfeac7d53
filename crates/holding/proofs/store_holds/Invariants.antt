-- `holding::store_holds` meets its contract. The invariant: the first i records are stored, and the rest is as it was.
use Prim.Native.Nat.{◌-◌}
use Rattle.numbers.specs.Below.{at}
use Rattle.numbers.proofs.ListLaws.{Filled}
use Rattle.walk.specs.Flat.{flat_of}
use Rattle.holding.specs.Holding.{allowed, row_left}
use Rattle.holding.proofs.store_holds.Given as goal

abbrev pub invariant-loop-i : goal.invariant-loop-i
invariant-loop-i l = Filled (λ i. row_left (at l.ns i) (at l.states i) (at l.margins i) (allowed (at l.ns i) (at l.margins i) ((flat_of l.grid).p i l.b))) l.grid.rows l.initial.out l.out l.i

abbrev pub decreases-loop-i : goal.decreases-loop-i
decreases-loop-i l = l.grid.rows - l.i

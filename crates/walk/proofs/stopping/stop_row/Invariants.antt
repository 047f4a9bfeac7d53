-- `walk::stopping::stop_row` meets its contract. The invariant: no row before i has a share below its factor at b. A turn is `looked-more`.
use Prim.Native.Nat.{◌-◌}
use lib.Dec.{ltb}
use Rattle.numbers.specs.Below.{at}
use Rattle.numbers.proofs.BelowLaws.{Looked}
use Rattle.walk.specs.Flat.{flat_of}
use Rattle.walk.proofs.stopping.stop_row.Given as goal

abbrev pub invariant-loop-i : goal.invariant-loop-i
invariant-loop-i l = Looked l.grid.rows (λ i. ltb (at l.shares i) ((flat_of l.grid).p i l.b)) l.i

abbrev pub decreases-loop-i : goal.decreases-loop-i
decreases-loop-i l = l.grid.rows - l.i

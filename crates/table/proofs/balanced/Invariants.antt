-- `table::balanced` meets its contract. The loop's invariant: what is there is the sum of the first i positions. The measure is the positions that are left.
use mathlib.Core.Path.{◌≡◌}
use Prim.Native.Nat.{◌-◌, ◌≤◌}
use lib.ListN.{length}
use Rattle.numbers.specs.Ints.{sum_ℤ}
use Rattle.types.specs.Ranges.{at_ℤ}
use Rattle.table.proofs.balanced.Given as goal

abbrev pub invariant-loop-i : goal.invariant-loop-i
invariant-loop-i l = (l.i ≤ length l.t) × (l.sum ≡ sum_ℤ l.i (at_ℤ l.t))

abbrev pub decreases-loop-i : goal.decreases-loop-i
decreases-loop-i l = length l.t - l.i

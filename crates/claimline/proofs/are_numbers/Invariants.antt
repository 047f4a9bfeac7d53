-- `claimline::are_numbers` meets its contract. The invariant: the first k numbers are good, and those left begin at place p (`NumbersTo`). The measure is
-- the numbers that are left.
use Prim.Native.Nat.{◌-◌}
use Rattle.claimline.proofs.ReadLaws.{NumbersTo}
use Rattle.claimline.proofs.are_numbers.Given as goal

abbrev pub invariant-loop-k : goal.invariant-loop-k
invariant-loop-k l = NumbersTo l.line l.at l.n l.p l.k

abbrev pub decreases-loop-k : goal.decreases-loop-k
decreases-loop-k l = l.n - l.k

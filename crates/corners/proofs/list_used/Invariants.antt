-- `corners::list_used` meets its contract. The loop's invariant: the flows up to k are listed, and those from k on are not changed.
-- The measure is what is left to list.
use Prim.Native.Nat.{◌-◌}
use Rattle.cornerrules.proofs.ListedLaws.{Using}
use Rattle.corners.proofs.list_used.Given as goal

abbrev pub invariant-loop-k : goal.invariant-loop-k
invariant-loop-k l = Using (l.part) l.initial.out l.count l.out l.k

abbrev pub decreases-loop-k : goal.decreases-loop-k
decreases-loop-k l = l.next - l.k

-- `arguments::lists::begin` meets its contract. The invariant: `from` is in the text. The measure is the number of pieces left.
use Prim.Native.Nat.{◌≤◌, ◌-◌}
use lib.ListN.{length}
use Rattle.arguments.proofs.lists.begin.Given as goal

abbrev pub invariant-loop : goal.invariant-loop
invariant-loop l = l.from ≤ length l.text

abbrev pub decreases-loop : goal.decreases-loop
decreases-loop l = l.k - l.counter

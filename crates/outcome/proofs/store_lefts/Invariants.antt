-- `outcome::store_lefts` meets its contract. The invariant: the first i records are stored, and the rest is as it was.
use lib.ListN.{length}
use Rattle.numbers.specs.Below.{at}
use Rattle.numbers.proofs.ListLaws.{Filled}
use Rattle.types.specs.Ranges.{at_ℤ}
use Rattle.outcome.specs.Outcome.{left_of_row}
use Rattle.outcome.proofs.store_lefts.Given as goal

abbrev pub invariant-loop-i : goal.invariant-loop-i
invariant-loop-i l = Filled (λ i. left_of_row (at l.states i) (at_ℤ l.rams i) (at l.margins i)) (length l.states) l.initial.left l.left l.i

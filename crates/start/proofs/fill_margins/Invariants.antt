-- `start::fill_margins` meets its contract. The invariant: the first i margins are there.
use mathlib.Core.Bool.{cond}
use lib.ListN.{length}
use Rattle.numbers.specs.Ints.{positive_part}
use Rattle.numbers.proofs.ListLaws.{Filled}
use Rattle.types.specs.Ranges.{at_ℤ}
use Rattle.staterules.specs.States.{kept}
use Rattle.start.proofs.fill_margins.Given as goal

abbrev pub invariant-loop-i : goal.invariant-loop-i
invariant-loop-i l = Filled (λ i. cond (kept l.states i) (positive_part (at_ℤ l.starts i)) 0) (length l.states) l.initial.margins l.margins l.i

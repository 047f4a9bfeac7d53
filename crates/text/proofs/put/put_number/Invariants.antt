-- `text::put::put_number` meets its contract. The invariant: what is left, written before place i, gives the whole (`DigitsPut`); a turn is `digits-put-more`.
-- The measure is what is left.
use Rattle.text.proofs.DigitLaws.{DigitsPut}
use Rattle.text.proofs.put.put_number.Given as goal

abbrev pub invariant-loop-left : goal.invariant-loop-left
invariant-loop-left l = DigitsPut l.n l.at l.initial.out l.out l.left l.i

abbrev pub decreases-loop-left : goal.decreases-loop-left
decreases-loop-left l = l.left

-- `text::field::number_at` meets its contract. The invariant is `Upto`: what was passed from `at` to i are digits worth v, with a zero first only where it is alone.
-- A turn is the law `upto-more`, and each return has a law of its own.
use Rattle.text.proofs.NumberLaws.{Upto}
use Rattle.text.proofs.field.number_at.Given as goal

abbrev pub invariant-loop-i : goal.invariant-loop-i
invariant-loop-i l = Upto l.line l.at l.i l.v

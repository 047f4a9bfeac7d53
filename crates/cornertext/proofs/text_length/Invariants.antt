-- `cornertext::text_length` meets its contract. The loop's invariant: the lengths of the first k lines are added up (`Measured`).
-- The measure is the corners that are left.
use lib.ListN.{length}
use Rattle.text.proofs.MeasureLaws.{Measured}
use Rattle.cornertext.specs.CornerText.{line_most, corner_line_at}
use Rattle.cornertext.proofs.text_length.Given as goal

abbrev pub invariant-loop-k : goal.invariant-loop-k
invariant-loop-k l = Measured (corner_line_at l.row l.flows) line_most (length l.flows) l.k l.sum

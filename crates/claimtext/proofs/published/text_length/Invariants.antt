-- `claimtext::published::text_length` meets its contract. The loop's invariant: the lengths of the first i rows' lines are added up (`Measured`).
-- The measure is the rows that are left.
use lib.ListN.{length}
use Rattle.text.proofs.MeasureLaws.{Measured}
use Rattle.staterules.specs.Standings.{standings_with}
use Rattle.claimtext.specs.Published.{line_most, published_line}
use Rattle.claims.specs.Unflagged.{unflagged}
use Rattle.claimtext.proofs.published.text_length.Given as goal

abbrev pub invariant-loop-i : goal.invariant-loop-i
invariant-loop-i l = Measured (published_line (standings_with l.rams l.states) (unflagged l.states l.named)) line_most (length l.states) l.i l.sum

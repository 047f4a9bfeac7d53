-- `blame::range::range_byte` meets its contract. The invariant: the first j tests pass, and the byte of those left is the byte of all (`Tested`). The measure
-- is the number of tests less j. A turn is the law `tested-more`.
use Rattle.blame.proofs.RangeLaws.{Tested}
use Rattle.blame.proofs.range.range_byte.Given as goal

abbrev pub invariant-loop-j : goal.invariant-loop-j
invariant-loop-j l = Tested l.sep l.tests l.k l.line l.j

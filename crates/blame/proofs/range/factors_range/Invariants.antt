-- `blame::range::factors_range` meets its contract. The invariant: the first j factors are in range (`Tested` of their tests). The measure is the number of
-- factors less j. A turn is the law `tested-more`.
use Rattle.types.specs.Ranges.{factor_tests}
use Rattle.blame.proofs.RangeLaws.{Tested}
use Rattle.blame.proofs.range.factors_range.Given as goal

abbrev pub invariant-loop-j : goal.invariant-loop-j
invariant-loop-j l = Tested l.sep (factor_tests l.f) l.k l.line l.j

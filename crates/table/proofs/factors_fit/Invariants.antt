-- `table::factors_fit` meets its contract. The invariant: `held` says whether the first z factors are in range (`Joined` of their tests). The measure is the
-- number of factors less z. A turn is the law `joined-more`.
use Rattle.types.specs.Ranges.{factor_tests}
use Rattle.types.proofs.AllLaws.{Joined}
use Rattle.table.proofs.factors_fit.Given as goal

abbrev pub invariant-loop-z : goal.invariant-loop-z
invariant-loop-z l = Joined (factor_tests l.f) l.held l.z

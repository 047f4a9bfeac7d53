-- `types::all` meets its contract. The invariant: `held` says whether the first j tests hold (`Joined`). The measure is the number of tests less j. A turn
-- is the law `joined-more`.
use Rattle.types.proofs.AllLaws.{Joined}
use Rattle.types.proofs.all.Given as goal

abbrev pub invariant-loop-j : goal.invariant-loop-j
invariant-loop-j l = Joined l.tests l.held l.j

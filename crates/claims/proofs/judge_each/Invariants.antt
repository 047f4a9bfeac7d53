-- `claims::judge_each` meets its contract. The invariant: no claim before k is faulty, and the rows that they name are flagged (`Judging`). The measure is the
-- claims that are left. A turn is `judging-more`.
use Rattle.claims.proofs.JudgeLaws.{Judging}
use Rattle.claims.proofs.judge_each.Given as goal

abbrev pub invariant-loop-k : goal.invariant-loop-k
invariant-loop-k l = Judging l.h.zones l.f l.rams l.states l.claims l.earlier l.k

-- `claimtext::judge::judge_lines` meets its contract. The invariant: k lines are passed, no claim of theirs is faulty, and the rows that they name are flagged
-- (`LinesTo`, `Judging`). The measure is the bytes that are left. A turn is `judging-more`.
use Prim.Native.Nat.{◌-◌}
use lib.ListN.{length}
use Rattle.claims.proofs.JudgeLaws.{Judging}
use Rattle.claimline.specs.ClaimText.{claims_in}
use Rattle.claimline.proofs.ReadLaws.{LinesTo}
use Rattle.claimtext.proofs.judge.judge_lines.Given as goal

abbrev pub invariant-loop-p : goal.invariant-loop-p
invariant-loop-p l = LinesTo l.list l.k l.p × Judging l.h.zones l.f l.rams l.states (claims_in l.list) l.earlier l.k

abbrev pub decreases-loop-p : goal.decreases-loop-p
decreases-loop-p l = length l.list - l.p

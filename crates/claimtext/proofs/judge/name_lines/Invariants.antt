-- `claimtext::judge::name_lines` meets its contract. The invariant: the rows that the lines before place p name are flagged (`Naming`). The measure is the bytes
-- that are left.
use Prim.Native.Nat.{◌-◌}
use lib.ListN.{length}
use Rattle.claimtext.proofs.ListLaws.{Naming}
use Rattle.claimtext.proofs.judge.name_lines.Given as goal

abbrev pub invariant-loop-p : goal.invariant-loop-p
invariant-loop-p l = Naming l.list l.named l.p

abbrev pub decreases-loop-p : goal.decreases-loop-p
decreases-loop-p l = length l.list - l.p

-- `resting::keep_rising` meets its contract: of the first j listed borders those above 0 stand in front (`Keeping`).
use lib.ListN.{length}
use Rattle.resting.proofs.KeepLaws.{Keeping}
use Rattle.resting.proofs.keep_rising.Given as goal

abbrev pub invariant-loop-j : goal.invariant-loop-j
invariant-loop-j l = Keeping (length l.caps) l.caps l.initial.rising l.rising l.j l.kept

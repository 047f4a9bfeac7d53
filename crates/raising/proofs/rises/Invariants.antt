-- `raising::rises` meets its contract: none of the first listed borders rises (`Still`), and where one does, it counts.
use Rattle.raising.proofs.StillLaws.{Still}
use Rattle.raising.proofs.rises.Given as goal

abbrev pub invariant-loop-b : goal.invariant-loop-b
invariant-loop-b l = Still l.caps l.rising l.b-index

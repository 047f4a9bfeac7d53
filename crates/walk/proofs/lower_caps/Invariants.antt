-- `walk::lower_caps` meets its contract: each cap lies between its old and its final value, and the first listed caps are final (`Lowering`).
use Rattle.walk.specs.Flat.{flat_of}
use Rattle.walk.proofs.LoweringLaws.{Lowering}
use Rattle.walk.proofs.lower_caps.Given as goal

abbrev pub invariant-loop-b : goal.invariant-loop-b
invariant-loop-b l = Lowering (flat_of l.grid) l.i l.share l.rising l.initial.caps l.caps l.b-index

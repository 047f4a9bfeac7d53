-- `nearness::yields` meets its contract: at the first listed borders row i has no larger factor than row t (`Lower`).
use Rattle.walk.specs.Flat.{flat_of}
use Rattle.nearness.proofs.YieldLaws.{Lower}
use Rattle.nearness.proofs.yields.Given as goal

abbrev pub invariant-loop-b : goal.invariant-loop-b
invariant-loop-b l = Lower (flat_of l.grid) l.rising l.t l.i l.b-index

-- `walk::first_caps` meets its contract: the borders before b have their cap (`FirstCaps`).
use Rattle.walk.specs.Flat.{flat_of}
use Rattle.walk.proofs.CapLaws.{FirstCaps}
use Rattle.walk.proofs.first_caps.Given as goal

abbrev pub invariant-loop-b : goal.invariant-loop-b
invariant-loop-b l = FirstCaps (flat_of l.grid) l.margins l.caps l.b

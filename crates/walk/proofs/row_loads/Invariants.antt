-- `walk::row_loads` meets its contract: the loss and the most part of the first listed borders (`Parting`). Each partial sum is within the row's margin, and so fits.
use Rattle.walk.specs.Flat.{flat_of}
use Rattle.walk.proofs.LoadLaws.{Parting}
use Rattle.walk.proofs.row_loads.Given as goal

abbrev pub invariant-loop-b : goal.invariant-loop-b
invariant-loop-b l = Parting (flat_of l.grid) l.i l.raises l.caps l.rising l.b-index l.loss l.most

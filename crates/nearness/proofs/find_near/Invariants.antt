-- `nearness::find_near` meets its contract: each of the first i rows yields to a listed one or may rest (`Sorting`). The caps are the raises of the margins, so n times the
-- largest part is within the margin.
use Prim.Native.Nat.{◌^◌}
use Rattle.walk.specs.Flat.{flat_of}
use Rattle.nearness.proofs.SortLaws.{Sorting}
use Rattle.nearness.proofs.find_near.Given as goal

abbrev pub invariant-loop-i : goal.invariant-loop-i
invariant-loop-i l = Sorting (flat_of l.grid) l.margins l.caps l.rising (2 ^ l.bits) l.initial.near l.near l.count l.i

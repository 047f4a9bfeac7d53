-- `resting::walk_near` meets its contract: the near rows before the next have tightened the caps (`Walking`): first those listed, then those that the list has no place for.
-- The other rows rest, and would tighten none.
use Prim.Native.Nat.{◌+◌, ◌-◌}
use lib.ListN.{length}
use Rattle.walk.specs.Flat.{flat_of}
use Rattle.resting.proofs.WalkLaws.{Walking}
use Rattle.resting.proofs.walk_near.Given as goal

abbrev pub invariant-loop-i : goal.invariant-loop-i
invariant-loop-i l = Walking (flat_of l.grid) l.margins l.gained l.near l.count l.initial.caps l.caps l.i-index

abbrev pub invariant-loop-i-2 : goal.invariant-loop-i-2
invariant-loop-i-2 l = Walking (flat_of l.grid) l.margins l.gained l.near l.count l.fn.caps l.caps (l.count + (l.i - length l.near))

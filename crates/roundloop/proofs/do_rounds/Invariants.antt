-- `roundloop::do_rounds` meets its contract: a turn is one round of the definition, and the loop ends where a round raises nothing (`Found`, `Turn`). The measure is the sum of
-- the margins of the rules: a round that raises something takes at least 1 from it.
use Prim.Native.Nat.{◌≤◌}
use lib.ListN.{length, take}
use Rattle.numbers.specs.Below.{at, sum}
use Rattle.walk.specs.Flat.{flat_of}
use Rattle.resting.specs.Resting.{left_to}
use Rattle.roundloop.proofs.TurnLaws.{Found}
use Rattle.roundloop.proofs.do_rounds.Given as goal

abbrev pub invariant-loop-block : goal.invariant-loop-block
invariant-loop-block l = (l.block.live ≤ length l.rising) × Found (flat_of l.grid) l.ns l.initial.margins l.initial.x l.initial.near l.margins l.x l.lasts l.gained l.caps (take l.block.live l.rising) l.near l.block.count l.block.wait l.done

abbrev pub decreases-loop-block : goal.decreases-loop-block
decreases-loop-block l = sum l.grid.rows (at (left_to (flat_of l.grid) l.gained l.margins))

-- `outcome::store_atcs` meets its contract. The invariant: the first b records are stored, and the rest is as it was.
use Prim.Native.Nat.{◌-◌}
use Rattle.numbers.specs.Below.{at}
use Rattle.numbers.proofs.ListLaws.{Filled}
use Rattle.rounds.specs.AllRounds.{stop_by}
use Rattle.walk.specs.Flat.{flat_of}
use Rattle.outcome.specs.Outcome.{border_left}
use Rattle.outcome.proofs.store_atcs.Given as goal

abbrev pub invariant-loop-b : goal.invariant-loop-b
invariant-loop-b l = Filled (λ b. border_left (at l.x b) (at l.lasts b) (stop_by (flat_of l.grid) l.shares b)) l.grid.borders l.initial.atc l.atc l.b

abbrev pub decreases-loop-b : goal.decreases-loop-b
decreases-loop-b l = l.grid.borders - l.b

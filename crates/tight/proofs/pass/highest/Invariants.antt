-- `tight::pass::highest` meets its contract. The invariant: `most` has the largest of the first b borders (`Both`).
use Prim.Native.Nat.{◌-◌}
use Rattle.walk.specs.Flat.{flat_of}
use Rattle.tightrules.proofs.PassLaws.{Both}
use Rattle.tight.proofs.pass.highest.Given as goal

abbrev pub invariant-loop-b : goal.invariant-loop-b
invariant-loop-b l = Both (flat_of l.grid) l.margins l.b l.most

abbrev pub decreases-loop-b : goal.decreases-loop-b
decreases-loop-b l = l.grid.borders - l.b

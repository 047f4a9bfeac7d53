-- `walk::grid::Grid::count_sharers` meets its contract. The outer loop fills n row by row (`Filled`), the inner one counts the borders with p > 0 (`Counted`).
use Prim.Native.Nat.{◌-◌}
use Rattle.numbers.proofs.ListLaws.{Filled}
use Rattle.rounds.specs.Rounds.{sharers}
use Rattle.walk.specs.Flat.{flat_of}
use Rattle.rounds.proofs.Loops.{Counted}
use Rattle.walk.proofs.grid.Grid.count_sharers.Given as goal

abbrev pub invariant-loop-f : goal.invariant-loop-f
invariant-loop-f l = Counted ((flat_of l.self).p l.i) l.self.borders l.f-index l.n

abbrev pub invariant-loop-i : goal.invariant-loop-i
invariant-loop-i l = Filled (sharers (flat_of l.self)) l.self.rows l.initial.ns l.ns l.i

abbrev pub decreases-loop-i : goal.decreases-loop-i
decreases-loop-i l = l.self.rows - l.i

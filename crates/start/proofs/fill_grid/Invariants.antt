-- `start::fill_grid` meets its contract: before row i and border k the cells are the grid's (`FilledTo`).
use Prim.Native.Nat.{◌-◌}
use Rattle.marks.specs.Marks.{flagged}
use Rattle.extractrules.specs.Start.{grid_of}
use Rattle.extractrules.proofs.StartLaws.{FilledTo}
use Rattle.start.proofs.fill_grid.Given as goal

abbrev pub invariant-loop-k : goal.invariant-loop-k
invariant-loop-k l = FilledTo (grid_of (flagged l.flags) l.h l.b l.f l.states) l.p l.i l.k

abbrev pub decreases-loop-k : goal.decreases-loop-k
decreases-loop-k l = l.h.borders - l.k

abbrev pub invariant-loop-i : goal.invariant-loop-i
invariant-loop-i l = FilledTo (grid_of (flagged l.flags) l.h l.b l.f l.states) l.p l.i 0

abbrev pub decreases-loop-i : goal.decreases-loop-i
decreases-loop-i l = l.h.rows - l.i

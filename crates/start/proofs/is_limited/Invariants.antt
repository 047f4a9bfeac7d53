-- `start::is_limited` meets its contract. The invariant: no row before i has p > 0 at the border. A turn is `looked-more`.
use lib.Dec.{ltb}
use Rattle.numbers.proofs.BelowLaws.{Looked}
use Rattle.marks.specs.Marks.{flagged}
use Rattle.extractrules.specs.Start.{grid_of}
use Rattle.start.proofs.is_limited.Given as goal

abbrev pub invariant-loop-i : goal.invariant-loop-i
invariant-loop-i l = Looked l.h.rows (λ i. ltb 0 ((grid_of (flagged l.flags) l.h l.b l.f l.states).p i l.k)) l.i

-- `start::first_unlimited` meets its contract. The invariant: each marked border before k is limited by some row. A turn is `looked-more`.
use Rattle.numbers.proofs.BelowLaws.{Looked}
use Rattle.marks.specs.Marks.{flagged}
use Rattle.extractrules.specs.Filled.{free_of}
use Rattle.start.proofs.first_unlimited.Given as goal

abbrev pub invariant-loop-k : goal.invariant-loop-k
invariant-loop-k l = Looked l.h.borders (free_of (flagged l.flags) l.h l.b l.f l.states) l.k

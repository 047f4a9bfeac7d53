-- `parts::row::count_loading` meets its contract. The invariant: n of the first k borders have p > 0 (`Counted`).
use mathlib.Core.List.{[]}
use lib.ListN.{length, get_or}
use Rattle.types.specs.Ranges.{border_of}
use Rattle.rounds.proofs.Loops.{Counted}
use Rattle.marginrules.specs.Margin.{p_of}
use Rattle.parts.proofs.row.count_loading.Given as goal

abbrev pub invariant-loop-k : goal.invariant-loop-k
invariant-loop-k l = Counted (λ k. p_of l.factors (border_of (get_or l.b k []))) (length l.b) l.k l.n

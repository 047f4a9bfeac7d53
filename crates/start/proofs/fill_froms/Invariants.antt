-- `start::fill_froms` meets its contract. The invariant: the first i exchanges are where the profile says.
use mathlib.Core.List.{[]}
use lib.ListN.{length, get_or}
use Rattle.numbers.proofs.ListLaws.{Filled}
use Rattle.types.specs.Ranges.{border_of}
use Rattle.extractrules.specs.Start.{from_by}
use Rattle.start.proofs.fill_froms.Given as goal

abbrev pub invariant-loop-i : goal.invariant-loop-i
invariant-loop-i l = Filled (λ i. from_by l.intraday (border_of (get_or l.b i []))) (length l.b) l.initial.x l.x l.i

-- `daylines::label::past_last` meets its contract. The invariant: what is found so far, and what is left to look at (`Looked`). The measure is the number of bytes left.
use Rattle.daylines.proofs.LabelLaws.{Looked}
use Rattle.daylines.proofs.label.past_last.Given as goal

abbrev pub invariant-loop-i : goal.invariant-loop-i
invariant-loop-i l = Looked l.text l.byte l.past l.i

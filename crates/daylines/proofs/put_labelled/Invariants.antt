-- `daylines::put_labelled` meets its contract. The invariant: the bytes before k are put with what stands before them, and the rest is to be put (`Labelling`).
-- The measure is the number of bytes left.
use Rattle.daylines.proofs.PutLaws.{Labelling}
use Rattle.daylines.proofs.put_labelled.Given as goal

abbrev pub invariant-loop-k : goal.invariant-loop-k
invariant-loop-k l = Labelling l.label l.text l.initial.out l.out l.next l.begins l.k

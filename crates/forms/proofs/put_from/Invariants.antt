-- `forms::put_from` meets its contract. The invariant: the place is in the buffer.
use Rattle.io.specs.Counts.{IsPrefixLen}
use Rattle.forms.proofs.put_from.Given as goal

abbrev pub invariant-loop-byte : goal.invariant-loop-byte
invariant-loop-byte l = IsPrefixLen l.at l.out

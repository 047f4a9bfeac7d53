-- `forms::put_digits` meets its contract. The invariant: the place is in the buffer. The measure is the unit.

use Rattle.io.specs.Counts.{IsPrefixLen}
use Rattle.forms.proofs.put_digits.Given as goal

abbrev pub invariant-loop-unit : goal.invariant-loop-unit
invariant-loop-unit l = IsPrefixLen l.next l.out

abbrev pub decreases-loop-unit : goal.decreases-loop-unit
decreases-loop-unit l = l.unit

-- `tidy::unmarked` meets its contract. The invariant: what is passed are BOMs and blanks. The measure is what is left.
use mathlib.Core.Path.{◌≡◌}
use lib.ListN.{length}
use Rattle.tidyrules.specs.Tidied.{unmarked}
use Rattle.tidy.proofs.unmarked.Given as goal

abbrev pub invariant-loop-after : goal.invariant-loop-after
invariant-loop-after l = unmarked l.rest ≡ unmarked l.text

abbrev pub decreases-loop-after : goal.decreases-loop-after
decreases-loop-after l = length l.rest

-- `start::first_below` meets its contract. The invariant: no row before i takes part and starts below 0. A turn is `looked-more`.
use mathlib.Core.Bool.{◌&&◌}
use lib.IntN.{pos}
use lib.ListN.{length}
use lib.Signed.{lt_z}
use Rattle.numbers.proofs.BelowLaws.{Looked}
use Rattle.types.specs.Ranges.{at_ℤ}
use Rattle.staterules.specs.States.{kept}
use Rattle.start.proofs.first_below.Given as goal

abbrev pub invariant-loop-i : goal.invariant-loop-i
invariant-loop-i l = Looked (length l.states) (λ i. kept l.states i && (l.strict && lt_z (at_ℤ l.starts i) (pos 0))) l.i

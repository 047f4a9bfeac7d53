-- `margin::s` meets its contract. The loop's invariant: what is there is the sum over the first b borders.
use mathlib.Core.Path.{◌≡◌}
use Prim.Native.Nat.{◌≤◌}
use lib.ListN.{length}
use Rattle.numbers.specs.Below.{sum}
use Rattle.marginrules.proofs.MagnitudeLaws.{loads}
use Rattle.margin.proofs.s.Given as goal

abbrev pub invariant-loop-b : goal.invariant-loop-b
invariant-loop-b l = (l.b ≤ length l.borders) × (l.s ≡ sum l.b (loads l.factors l.borders))

-- `margin::less_flow` meets its contract. The loop's invariant: what is there is the value less the products of the first z zones.
use mathlib.Core.Path.{◌≡◌}
use Prim.Native.Nat.{◌≤◌}
use lib.IntN.{◌-ℤ◌}
use lib.ListN.{length}
use Rattle.numbers.specs.Ints.{sum_ℤ}
use Rattle.marginrules.proofs.MagnitudeLaws.{products}
use Rattle.margin.proofs.less_flow.Given as goal

abbrev pub invariant-loop-z : goal.invariant-loop-z
invariant-loop-z l = (l.z ≤ length l.nets) × (l.left ≡ l.initial.left -ℤ sum_ℤ l.z (products l.factors l.nets))

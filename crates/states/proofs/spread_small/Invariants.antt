-- `states::spread_small` meets its contract. The loop's invariant: the largest of `high` and the factors from z on is the largest of all; the smallest of `low` and
-- the factors from z on is the smallest of all.
use mathlib.Core.Path.{◌≡◌}
use Prim.Native.Nat.{◌≤◌}
use lib.ListN.{length, drop}
use Rattle.numbers.specs.Ints.{Within}
use Rattle.types.specs.LineLimits.{factor_most}
use Rattle.types.specs.Ranges.{at_ℤ}
use Rattle.staterules.specs.States.{highest, lowest}
use Rattle.states.proofs.spread_small.Given as goal

abbrev pub invariant-loop-z : goal.invariant-loop-z
invariant-loop-z l = record {
  below : l.z ≤ length l.factors;
  high-in : Within factor_most l.high;
  low-in : Within factor_most l.low;
  high_is : highest l.high (drop l.z l.factors) ≡ highest (at_ℤ l.factors 0) (drop 1 l.factors);
  low-is : lowest l.low (drop l.z l.factors) ≡ lowest (at_ℤ l.factors 0) (drop 1 l.factors);
}

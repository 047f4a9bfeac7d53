-- `claims::cited_sum` meets its contract. The invariant: what is there is the sum of the first j multiplied values. The measure is the pairs left.
use mathlib.Core.Path.{◌≡◌}
use Prim.Native.Nat.{◌-◌, ◌≤◌}
use lib.IntN.{nat_abs}
use Rattle.numbers.specs.Ints.{sum_ℤ}
use Rattle.claimrules.specs.Claims.{pairs}
use Rattle.claims.proofs.FormLaws.{terms}
use Rattle.claims.proofs.cited_sum.Given as goal

abbrev pub invariant-loop-j : goal.invariant-loop-j
invariant-loop-j l = record {
  count : l.n ≡ nat_abs (pairs l.claim);
  high : l.j ≤ l.n;
  so_far : l.sum ≡ sum_ℤ l.j (terms l.claim l.xs l.stride l.at);
}

abbrev pub decreases-loop-j : goal.decreases-loop-j
decreases-loop-j l = l.n - l.j

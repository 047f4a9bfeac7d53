-- `claims::cited_before` meets its contract. The invariant: no pair before e cites the row of pair j. A turn is `looked-more`.
use Prim.Native.Nat.{◌-◌}
use Rattle.numbers.specs.Ints.{same_ℤ}
use Rattle.numbers.proofs.BelowLaws.{Looked}
use Rattle.claimrules.specs.Claims.{cited_row}
use Rattle.claims.proofs.cited_before.Given as goal

abbrev pub invariant-loop-e : goal.invariant-loop-e
invariant-loop-e l = Looked l.j (λ e. same_ℤ (cited_row l.claim e) (cited_row l.claim l.j)) l.e

abbrev pub decreases-loop-e : goal.decreases-loop-e
decreases-loop-e l = l.j - l.e

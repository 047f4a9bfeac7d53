-- `claims::pairs_good` meets its contract. The invariant: each pair before j is good. A turn is `looked-more`.
use mathlib.Core.Bool.{not}
use Prim.Native.Nat.{◌-◌}
use Rattle.numbers.proofs.BelowLaws.{Looked}
use Rattle.claimrules.specs.Claims.{pair_good}
use Rattle.claims.specs.Named.{flagged}
use Rattle.claims.proofs.pairs_good.Given as goal

abbrev pub invariant-loop-j : goal.invariant-loop-j
invariant-loop-j l = Looked l.n (λ j. not (pair_good l.states (flagged l.named) l.claim j)) l.j

abbrev pub decreases-loop-j : goal.decreases-loop-j
decreases-loop-j l = l.n - l.j

-- `claims::is_level` meets its contract. The invariant: each zone before z has the excess of zone 0. A turn is `looked-more`.
use mathlib.Core.Bool.{not}
use Prim.Native.Nat.{◌-◌}
use Rattle.numbers.specs.Ints.{same_ℤ}
use Rattle.numbers.proofs.BelowLaws.{Looked}
use Rattle.claimrules.specs.Claims.{excess, factor_at}
use Rattle.claims.proofs.is_level.Given as goal

abbrev pub invariant-loop-z : goal.invariant-loop-z
invariant-loop-z l = Looked l.zones (λ z. not (same_ℤ (excess l.claim (factor_at l.zones l.f z)) (excess l.claim (factor_at l.zones l.f 0)))) l.z

abbrev pub decreases-loop-z : goal.decreases-loop-z
decreases-loop-z l = l.zones - l.z

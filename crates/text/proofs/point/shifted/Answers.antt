use mathlib.Core.Path.{◌≡◌, ap, ◌∙◌}
use Prim.Native.Nat.{ℕ, ◌/◌, ◌^◌}
use native.Mathlib.Omega.{arith}
use Rattle.text.proofs.PointLaws.{shift_none, shift_more}
use Rattle.text.proofs.point.shifted.Goals as goal

pub loop-init : goal.loop-init
loop-init c = record { is = shift_none _; high = omega arith }

pub loop-preserved : goal.loop-preserved
loop-preserved c = record { is = shift_more _ _ _ c.loop.invariant.is; high = omega arith }

pub returns : goal.returns
returns c = let e : c.loop.counter ≡ c.args.k = omega (arith, c.loop.invariant.high) in c.loop.invariant.is ∙ ap (λ (j : ℕ). c.args.n / 10 ^ j) e

use mathlib.Core.Path.{◌≡◌, ap, ◌∙◌}
use Prim.Native.Nat.{ℕ, ◌+◌, ◌<◌}
use native.Mathlib.Omega.{arith}
use lib.IntN.{ℤ, ◌-ℤ◌, ◌*ℤ◌}
use lib.ListN.{length}
use mir.Facts.{to_z-of_z}
use mir.Syntax.{w64}
use mir.Val.{SFits, to_z, of_z}
use Rattle.numbers.specs.Ints.{Within, sum_ℤ}
use Rattle.numbers.proofs.IntLaws.{within_fits, within_le, within_mul}
use Rattle.types.specs.LineLimits.{factor_most, net_most}
use Rattle.types.specs.Ranges.{at_ℤ}
use Rattle.marginrules.specs.Margin.{flow_of}
use Rattle.marginrules.specs.Magnitudes.{start_most}
use Rattle.marginrules.proofs.MagnitudeLaws.{within_is, products, flow_upto, flow_none, flow_more, flow_all}
use Rattle.margin.proofs.less_flow.Goals as goal

abbrev g : (c : goal.Start) → ℤ
g c = to_z w64 (of_z w64 c.args.value)

g-is : (c : goal.Start) → (g c) ≡ c.args.value
g-is c = to_z-of_z {w = w64} c.ranges.value

abbrev z : (c : goal.After-net-1) → ℕ
z c = c.loop-z.z

abbrev factor : (c : goal.After-net-1) → ℤ
factor c = at_ℤ c.args.factors.now (z c)

abbrev net : (c : goal.After-net-1) → ℤ
net c = at_ℤ c.args.nets.now (z c)

below : (c : goal.After-net-1) → (z c) < length c.args.nets.now
below c = omega arith

factor_in : (c : goal.After-net-1) → Within factor_most (factor c)
factor_in c = c.requires.factors_in_range.each.at (z c) (omega (arith, c.requires.nets_in_range.few, (below c)))

net-in : (c : goal.After-net-1) → Within net_most (net c)
net-in c = c.requires.nets_in_range.each.at (z c) (below c)

product_fits : (c : goal.After-net-1) → SFits w64 ((factor c) *ℤ (net c))
product_fits c = within_fits (within_mul (factor_in c) (net-in c)) tt

abbrev next : (c : goal.After-net-1) → ℤ
next c = to_z w64 c.loop-z.left-bits -ℤ (factor c) *ℤ (net c)

turned : (c : goal.After-net-1) → (next c) ≡ g c.before.before.before.before -ℤ sum_ℤ ((z c) + 1) (products c.args.factors.now c.args.nets.now)
turned c = flow_more (g c.before.before.before.before) c.args.factors.now c.args.nets.now (z c) c.loop-z.invariant.1

next_fits : (c : goal.After-net-1) → SFits w64 (next c)
next_fits c = within_fits
    (within_le {n = start_most}
    (within_is (turned c) (flow_upto (within_is (g-is c.before.before.before.before) c.requires.within) _ _ c.requires.nets_in_range.few c.requires.factors_in_range.each c.requires.nets_in_range.each ((z c) + 1) (omega (arith, (below c)))))
    (omega (arith, c.requires.nets_in_range.few, c.requires.factors_in_range.few, (below c))))
    tt

pub loop-z-init : goal.loop-z-init
loop-z-init c = (omega arith, flow_none (g c) c.args.factors.now c.args.nets.now)

pub bounds-factors-z : goal.bounds-factors-z
bounds-factors-z c = omega (arith, c.requires.nets_in_range.few)

pub overflow_mul-left : goal.overflow_mul-left
overflow_mul-left c = simp (to_z-of_z, within_fits (factor_in c) tt, within_fits (net-in c) tt) (product_fits c)

pub overflow_sub-left : goal.overflow_sub-left
overflow_sub-left c = simp (to_z-of_z, within_fits (factor_in c) tt, within_fits (net-in c) tt, product_fits c) (next_fits c)

pub loop-z-preserved : goal.loop-z-preserved
loop-z-preserved c = simp (to_z-of_z, within_fits (factor_in c) tt, within_fits (net-in c) tt, product_fits c, next_fits c) (omega (arith, below c), turned c)

pub returns : goal.returns
returns c = c.loop-z.invariant.1 ∙ flow_all (g c.before.before) c.args.factors.now c.args.nets.now c.loop-z.z (omega arith) ∙ ap (λ (x : ℤ). x -ℤ flow_of c.args.factors.now c.args.nets.now) (g-is c.before.before)

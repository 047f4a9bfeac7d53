use mathlib.Core.Path.{◌≡◌, refl}
use Prim.Native.Nat.{ℕ, ◌<◌}
use native.Mathlib.Omega.{arith}
use borrow.Author.Rules.{sfits_of}
use lib.IntN.{ℤ}
use mathlib.Core.List.{List}
use lib.ListN.{length, drop}
use mir.Facts.{to_z-of_z}
use mir.Syntax.{w64}
use mir.Val.{SFits, to_z}
use Rattle.numbers.specs.Ints.{max_ℤ, min_ℤ}
use Rattle.numbers.proofs.IntLaws.{within_fits, within_max, within_min}
use Rattle.types.specs.Ranges.{at_ℤ}
use Rattle.staterules.specs.States.{highest, lowest}
use Rattle.marginrules.specs.Magnitudes.{FactorsInRange}
use Rattle.marginrules.proofs.MagnitudeLaws.{within_sub}
use Rattle.staterules.proofs.StateLaws.{highest_more, highest_all, lowest_more, lowest_all, spread_is}
use Rattle.states.proofs.spread_small.Goals as goal

-- the factor of zone z fits
f-fits : {fs : List ℤ} → FactorsInRange fs → (z : ℕ) → z < length fs → SFits w64 (at_ℤ fs z)
f-fits s z h = within_fits (s.each.at z h) tt

pub bounds-factors-0 : goal.bounds-factors-0
bounds-factors-0 c = c.requires.some

pub loop-z-init : goal.loop-z-init
loop-z-init c = let small = c.requires.each.at 0 c.requires.some in
    simp (to_z-of_z, f-fits c.requires 0 c.requires.some) (record { below = c.requires.some; high-in = small; low-in = small; high_is = refl; low-is = refl })

pub loop-z-preserved : goal.loop-z-preserved
loop-z-preserved c = let h : c.loop-z.z < length c.args.factors.now = omega arith in
    let k : SFits w64 c.larger-high.result = sfits_of c.larger-high.type_inv in
    let k2 : SFits w64 c.smaller-low.result = sfits_of c.smaller-low.type_inv in
    let e : c.larger-high.result ≡ max_ℤ (to_z w64 c.loop-z.high-bits) (at_ℤ c.args.factors.now c.loop-z.z) = simp (to_z-of_z, f-fits c.requires c.loop-z.z h) at c.larger-high.ensures in
    let e2 : c.smaller-low.result ≡ min_ℤ (to_z w64 c.loop-z.low-bits) (at_ℤ c.args.factors.now c.loop-z.z) = simp (to_z-of_z, f-fits c.requires c.loop-z.z h) at c.smaller-low.ensures in
    simp (to_z-of_z, k, k2)
    (record {
      below = omega arith;
      high-in = rw e (within_max c.loop-z.invariant.high-in (c.requires.each.at c.loop-z.z h));
      low-in = rw e2 (within_min c.loop-z.invariant.low-in (c.requires.each.at c.loop-z.z h));
      high_is = rw e (rw (highest_more (to_z w64 c.loop-z.high-bits) c.args.factors.now c.loop-z.z h) at c.loop-z.invariant.high_is);
      low-is = rw e2 (rw (lowest_more (to_z w64 c.loop-z.low-bits) c.args.factors.now c.loop-z.z h) at c.loop-z.invariant.low-is);
    })

pub overflow_sub-result : goal.overflow_sub-result
overflow_sub-result c = within_fits (within_sub c.loop-z.invariant.high-in c.loop-z.invariant.low-in) tt

pub returns : goal.returns
returns c = let high : to_z w64 c.loop-z.high-bits ≡ highest (at_ℤ c.args.factors.now 0) (drop 1 c.args.factors.now) = rw (highest_all (to_z w64 c.loop-z.high-bits) c.args.factors.now c.loop-z.z (omega arith)) at c.loop-z.invariant.high_is in
    let low : to_z w64 c.loop-z.low-bits ≡ lowest (at_ℤ c.args.factors.now 0) (drop 1 c.args.factors.now) = rw (lowest_all (to_z w64 c.loop-z.low-bits) c.args.factors.now c.loop-z.z (omega arith)) at c.loop-z.invariant.low-is in
    simp (to_z-of_z, within_fits (within_sub c.loop-z.invariant.high-in c.loop-z.invariant.low-in) tt, spread_is c.args.factors.now c.requires.some) (rw (high, low))

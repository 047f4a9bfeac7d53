use Rattle.std.specs.Prelude.{Option}
use mathlib.Core.Path.{◌≡◌, sym, ap, ◌∙◌}
use mathlib.Core.Bool.{Bool, not}
use mathlib.Core.List.{List}
use Prim.Native.Nat.{ℕ, ◌<◌}
use native.Mathlib.Omega.{arith}
use lib.IntN.{ℤ, ◌-ℤ◌}
use lib.ListN.{length}
use mir.Facts.{to_z-of_z}
use mir.Syntax.{w64}
use mir.Val.{SFits}
use Rattle.numbers.specs.Ints.{same_ℤ}
use Rattle.numbers.specs.Below.{given}
use Rattle.numbers.proofs.IntLaws.{within_fits, same_self}
use Rattle.numbers.proofs.BelowLaws.{looked_none, looked_all, looked_here, looked_more}
use Rattle.types.specs.Ranges.{at_ℤ}
use Rattle.staterules.specs.States.{shifted}
use Rattle.marginrules.specs.Magnitudes.{FactorsInRange}
use Rattle.marginrules.proofs.MagnitudeLaws.{within_sub}
use Rattle.states.proofs.shifted.Goals as goal

abbrev other : (fs gs : List ℤ) → (z : ℕ) → Bool
other fs gs z = not (same_ℤ (at_ℤ fs z -ℤ at_ℤ gs z) (at_ℤ fs 0 -ℤ at_ℤ gs 0))

-- a factor fits, and so does a difference of two
f-fits : {fs : List ℤ} → FactorsInRange fs → (z : ℕ) → z < length fs → SFits w64 (at_ℤ fs z)
f-fits s z h = within_fits (s.each.at z h) tt

d-fits : {fs gs : List ℤ} → FactorsInRange fs → FactorsInRange gs → (z : ℕ) → z < length fs → z < length gs → SFits w64 (at_ℤ fs z -ℤ at_ℤ gs z)
d-fits s t z h k = within_fits (within_sub (s.each.at z h) (t.each.at z k)) tt

pub bounds-fs-0 : goal.bounds-fs-0
bounds-fs-0 c = c.requires.factors_in_range.some

pub bounds-gs-0 : goal.bounds-gs-0
bounds-gs-0 c = c.requires.factors_in_range_2.some

pub overflow_sub-d : goal.overflow_sub-d
overflow_sub-d c = simp (to_z-of_z, f-fits c.requires.factors_in_range 0 c.requires.factors_in_range.some, f-fits c.requires.factors_in_range_2 0 c.requires.factors_in_range_2.some) (d-fits c.requires.factors_in_range c.requires.factors_in_range_2 0 c.requires.factors_in_range.some c.requires.factors_in_range_2.some)

pub loop-z-init : goal.loop-z-init
loop-z-init c = looked_more _ _ 0 (looked_none _ _) c.requires.factors_in_range.some (ap not (same_self _))

pub bounds-gs-z : goal.bounds-gs-z
bounds-gs-z c = omega (arith, c.requires.gs_len)

pub overflow_sub-f : goal.overflow_sub-f
overflow_sub-f c = let below : c.loop-z.z < length c.args.fs.now = omega arith in
    let below2 : c.loop-z.z < length c.args.gs.now = omega (arith, c.requires.gs_len) in
    simp (to_z-of_z, f-fits c.requires.factors_in_range c.loop-z.z below, f-fits c.requires.factors_in_range_2 c.loop-z.z below2) (d-fits c.requires.factors_in_range c.requires.factors_in_range_2 c.loop-z.z below below2)

pub returns-then-not-same : goal.returns-then-not-same
unfolding shifted given
returns-then-not-same c = let below : c.loop-z.z < length c.args.fs.now = omega arith in
    let below2 : c.loop-z.z < length c.args.gs.now = omega (arith, c.requires.gs_len) in
    let fact : not c.same.result ≡ other c.args.fs.now c.args.gs.now c.loop-z.z = ap not (simp (to_z-of_z, f-fits c.requires.factors_in_range c.loop-z.z below, f-fits c.requires.factors_in_range_2 c.loop-z.z below2, d-fits c.requires.factors_in_range c.requires.factors_in_range_2 c.loop-z.z below below2, f-fits c.requires.factors_in_range 0 c.requires.factors_in_range.some, f-fits c.requires.factors_in_range_2 0 c.requires.factors_in_range_2.some, d-fits c.requires.factors_in_range c.requires.factors_in_range_2 0 c.requires.factors_in_range.some c.requires.factors_in_range_2.some) at c.same.ensures) in
    ap (λ (o : Option ℕ). not (given o)) (looked_here _ _ _ c.loop-z.invariant below (sym fact ∙ c.if-not-same.true-raw))

pub loop-z-preserved : goal.loop-z-preserved
loop-z-preserved c = let below : c.loop-z.z < length c.args.fs.now = omega arith in
    let below2 : c.loop-z.z < length c.args.gs.now = omega (arith, c.requires.gs_len) in
    let fact : not c.same.result ≡ other c.args.fs.now c.args.gs.now c.loop-z.z = ap not (simp (to_z-of_z, f-fits c.requires.factors_in_range c.loop-z.z below, f-fits c.requires.factors_in_range_2 c.loop-z.z below2, d-fits c.requires.factors_in_range c.requires.factors_in_range_2 c.loop-z.z below below2, f-fits c.requires.factors_in_range 0 c.requires.factors_in_range.some, f-fits c.requires.factors_in_range_2 0 c.requires.factors_in_range_2.some, d-fits c.requires.factors_in_range c.requires.factors_in_range_2 0 c.requires.factors_in_range.some c.requires.factors_in_range_2.some) at c.same.ensures) in
    looked_more _ _ _ c.loop-z.invariant below (sym fact ∙ c.if-not-same.false-raw)

pub returns : goal.returns
unfolding shifted given
returns c = ap (λ (o : Option ℕ). not (given o)) (looked_all _ _ _ c.loop-z.invariant (omega arith))

use mathlib.Core.Path.{◌≡◌, refl, ap, ◌∙◌}
use Prim.Native.Nat.{ℕ, ◌+◌, ◌*◌, ◌≤◌, ◌<◌}
use native.Mathlib.Omega.{arith}
use lib.IntN.{ℤ, pos, ◌+ℤ◌}
use mathlib.Core.List.{List}
use lib.ListN.{length}
use mir.Facts.{to_z-of_z}
use mir.Syntax.{w64}
use mir.Val.{SFits}
use native.Mathlib.Nat.{mul-le-mul_right}
use native.Mathlib.Numerals.{add-one}
use Rattle.numbers.specs.Ints.{AllWithin, sum_ℤ, same_ℤ}
use Rattle.numbers.proofs.IntLaws.{within_fits, within_le, within_sum}
use Rattle.limits.specs.Limits.{zones_most}
use Rattle.types.specs.LineLimits.{net_most}
use Rattle.types.specs.Ranges.{at_ℤ}
use Rattle.tablerules.specs.Table.{balanced}
use Rattle.table.proofs.balanced.Goals as goal

pub loop-i-init : goal.loop-i-init
unfolding sum_ℤ
loop-i-init c = (omega arith, refl)

-- one position more of the sum
sum_more : (f : ℕ → ℤ) (i : ℕ) (s : ℤ) → s ≡ sum_ℤ i f → s +ℤ f i ≡ sum_ℤ (i + 1) f
unfolding sum_ℤ
sum_more f i s e = rw (add-one i) (ap (λ (x : ℤ). x +ℤ f i) e)

-- the sum of the first positions fits
next_fits : (t : List ℤ) (i : ℕ) (s : ℤ) → length t ≤ zones_most → AllWithin net_most t → i < length t → s ≡ sum_ℤ i (at_ℤ t) → SFits w64 (s +ℤ at_ℤ t i)
next_fits t i s few all below e =
    within_fits {n = zones_most * net_most}
    (rw (sum_more (at_ℤ t) i s e) (within_le (within_sum (i + 1) (at_ℤ t) (λ k l. all.at k (omega (arith, below)))) (mul-le-mul_right {m = i + 1} {n = zones_most} net_most (omega (arith, few, below)))))
    tt

pub overflow_add-sum : goal.overflow_add-sum
overflow_add-sum c =
    let below : c.loop-i.i < length c.args.t.now = omega arith in
    simp (to_z-of_z, within_fits (c.requires.1.at _ below) tt) (next_fits c.args.t.now c.loop-i.i _ c.requires.0 c.requires.1 below c.loop-i.invariant.1)

pub loop-i-preserved : goal.loop-i-preserved
loop-i-preserved c =
    let below : c.loop-i.i < length c.args.t.now = omega arith in
    simp (to_z-of_z, within_fits (c.requires.1.at _ below) tt, next_fits c.args.t.now c.loop-i.i _ c.requires.0 c.requires.1 below c.loop-i.invariant.1)
    (omega (arith, below), sum_more (at_ℤ c.args.t.now) _ _ c.loop-i.invariant.1)

pub returns : goal.returns
unfolding balanced
returns c = let e : c.loop-i.i ≡ length c.args.t.now = omega arith in
    c.same.ensures ∙ ap (λ (x : ℤ). same_ℤ x (pos 0)) (c.loop-i.invariant.1 ∙ ap (λ (k : ℕ). sum_ℤ k (at_ℤ c.args.t.now)) e)

use mathlib.Core.Path.{◌≡◌, ap, subst, ◌∙◌}
use mathlib.Core.Bool.{true, false}
use Prim.Native.Nat.{ℕ, ◌+◌, ◌-◌}
use native.Mathlib.Omega.{arith}
use lib.ListN.{get_or}
use Rattle.text.specs.Fields.{is_digit}
use Rattle.text.specs.Class.{class_of}
use Rattle.text.specs.Point.{decimals_at}
use Rattle.text.proofs.NumberTrip.{digit_range}
use Rattle.text.proofs.ClassLaws.{class_digit, class_not_digit}
use Rattle.text.proofs.PointLaws.{Decimals, decimals_start, decimals_all, decimals_bad, decimals_small, decimals_more}
use Rattle.text.proofs.point.decimals_at.Goals as goal

no_digit : (c : goal.In_default) →
    is_digit (get_or c.args.line.now c.loop-p.p 0) ≡ false
no_digit c = class_not_digit (get_or c.args.line.now c.loop-p.p 0) c.class_of.result (c.class_of.ensures ∙ ap class_of c.byte_at.ensures) c.in_default.not-Digit

digit : (c : goal.In-Digit) →
    let b = get_or c.args.line.now c.loop-p.p 0 in
    (is_digit b ≡ true) × (c.in-Digit.d ≡ b - 48)
digit c = class_digit (get_or c.args.line.now c.loop-p.p 0) c.class_of.result (c.class_of.ensures ∙ ap class_of c.byte_at.ensures) c.in-Digit.d c.in-Digit.is

pub loop-p-init : goal.loop-p-init
loop-p-init c = subst (Decimals c.args.minus c.args.line.now c.args.stop c.args.k c.args.at c.args.v c.args.at c.args.v) (omega arith) (decimals_start _ _ _ _ _ _ c.requires.2 c.requires.3 c.requires.0 c.requires.1)

pub returns-in_default : goal.returns-in_default
returns-in_default c = decimals_bad _ _ _ _ _ _ _ _ _ c.loop-p.invariant (omega arith) (no_digit c)

pub overflow_mul-worth : goal.overflow_mul-worth
overflow_mul-worth c = omega (arith, decimals_small _ _ _ _ _ _ _ _ _ c.loop-p.invariant (omega arith))

pub overflow_add-worth : goal.overflow_add-worth
overflow_add-worth c = let d = digit c in
    omega (arith, decimals_small _ _ _ _ _ _ _ _ _ c.loop-p.invariant (omega arith), d.1, digit_range (get_or c.args.line.now c.loop-p.p 0) d.0)

pub loop-p-preserved : goal.loop-p-preserved
loop-p-preserved c =
    let d = digit c in
    subst (Decimals c.args.minus c.args.line.now c.args.stop c.args.k c.args.at c.args.v (c.loop-p.p + 1) _) (omega arith) (decimals_more _ _ _ _ _ _ _ _ _ c.loop-p.invariant (omega arith) d.0 _ d.1)

pub ended-requires : goal.ended-requires
ended-requires c = (omega (arith, c.requires), omega (arith, c.loop-p.invariant.within))

pub returns : goal.returns
returns c =
    let last : c.loop-p.p ≡ c.args.at + c.args.k = omega arith in
    c.ended.ensures ∙ subst (λ (p : ℕ). decimals_at c.args.minus 0 c.args.line.now p c.loop-p.worth c.args.stop ≡ decimals_at c.args.minus c.args.k c.args.line.now c.args.at c.args.v c.args.stop) last (decimals_all _ _ _ _ _ _ _ _ _ c.loop-p.invariant (omega arith))

use Prim.Native.Nat.{◌-◌, ◌<◌, ◌≤◌, ◌^◌}
use mathlib.Core.Path.{◌≡◌, sym, ap, ◌∙◌}
use Rattle.std.specs.Prelude.{Err}
use mathlib.Core.Bool.{true}
use mathlib.Core.List.{[]}
use native.Mathlib.Omega.{arith}
use lib.ListN.{length, get_or, drop}
use Rattle.text.specs.Fields.{is_digit, digits}
use Rattle.text.proofs.NumberTrip.{digit_range}
use Rattle.text.proofs.ClassLaws.{class_digit, class_not_digit}
use Rattle.text.proofs.NumberLaws.{upto_none, upto_small, upto_more, upto_full, upto_empty, upto_other, upto_stop, upto_cut, digits_none, digits_end}
use Rattle.text.proofs.field.number_at.Goals as goal
use Rattle.text.proofs.field.number_at.Goals.{else-at-i-via-then-at-i+else-line-i, else-at-i-via-else-at-i}

small : (c : goal.Else-full) → c.loop-i.v < 10 ^ 9
small c = upto_small c.args.line.now c.args.at c.loop-i.i c.loop-i.v c.loop-i.invariant (sym c.full.ensures ∙ c.if-full.false)

pub loop-i-init : goal.loop-i-init
loop-i-init c = upto_none c.args.line.now c.args.at

pub returns-then-line-i : goal.returns-then-line-i
returns-then-line-i c = let no_digit : digits (drop c.loop-i.i c.args.line.now) ≡ [] = digits_none c.args.line.now c.loop-i.i c.loop-i-test.true (class_not_digit (get_or c.args.line.now c.loop-i.i 0) c.class_of.result c.class_of.ensures c.in_default.not-Digit) in
    upto_stop c.args.line.now c.args.at c.loop-i.i c.loop-i.v c.loop-i.invariant (no_digit) c.if-at-i.true c.args.stop
    c.loop-i-test.true c.if-line-i.true

pub returns-in_default : goal.returns-in_default
returns-in_default c =
    let no_digit : digits (drop c.loop-i.i c.args.line.now) ≡ [] = digits_none c.args.line.now c.loop-i.i c.loop-i-test.true (class_not_digit (get_or c.args.line.now c.loop-i.i 0) c.class_of.result c.class_of.ensures c.in_default.not-Digit) in
    elim c.else-at-i.branch [ else-at-i-via-then-at-i+else-line-i w ↦ upto_other c.args.line.now c.args.at c.loop-i.i c.loop-i.v c.loop-i.invariant no_digit w.if-at-i.true c.args.stop c.loop-i-test.true w.if-line-i.false | else-at-i-via-else-at-i w ↦ upto_empty c.args.line.now c.args.at c.loop-i.i c.loop-i.v c.loop-i.invariant no_digit c.args.stop w.if-at-i.false ]

pub returns-then-full : goal.returns-then-full
returns-then-full c =
    let digit : let b = get_or c.args.line.now c.loop-i.i 0 in (is_digit b ≡ true) × (c.in-Digit.d ≡ b - 48) = class_digit (get_or c.args.line.now c.loop-i.i 0) c.class_of.result c.class_of.ensures c.in-Digit.d c.in-Digit.is in
    upto_full c.args.line.now c.args.at c.loop-i.i c.loop-i.v c.loop-i.invariant c.loop-i-test.true (digit).0 c.args.stop
    (sym c.full.ensures ∙ c.if-full.true)

pub overflow_add-v : goal.overflow_add-v
overflow_add-v c =
    let digit : let b = get_or c.args.line.now c.loop-i.i 0 in (is_digit b ≡ true) × (c.in-Digit.d ≡ b - 48) = class_digit (get_or c.args.line.now c.loop-i.i 0) c.class_of.result c.class_of.ensures c.in-Digit.d c.in-Digit.is in
    let d = digit in
    omega (arith, small c, digit_range (get_or c.args.line.now c.loop-i.i 0) d.0)

pub loop-i-preserved : goal.loop-i-preserved
loop-i-preserved c =
    let digit : let b = get_or c.args.line.now c.loop-i.i 0 in (is_digit b ≡ true) × (c.in-Digit.d ≡ b - 48) = class_digit (get_or c.args.line.now c.loop-i.i 0) c.class_of.result c.class_of.ensures c.in-Digit.d c.in-Digit.is in
    let d = digit in
    upto_more c.args.line.now c.args.at c.loop-i.i c.loop-i.v c.loop-i.invariant c.loop-i-test.true d.0
    c.in-Digit.d d.1 (sym c.full.ensures ∙ c.if-full.false)

pub returns : goal.returns
returns c =
    let none : length c.args.line.now ≤ c.args.at → length (digits (drop c.args.at c.args.line.now)) ≡ 0 = λ h. ap length (digits_end c.args.line.now c.args.at h) in
    ap Err (c.max.ensures ∙ grind (arith, none, c.loop-i.invariant)) ∙ upto_cut c.args.line.now c.args.at c.loop-i.i c.loop-i.v c.loop-i.invariant (digits_end c.args.line.now c.loop-i.i c.loop-i-test.false) c.args.stop c.loop-i-test.false

-- `text::point::signed_point_length` meets its contract: the digits before the point, the point, the decimals, and one more for a minus.
use mathlib.Core.Path.{◌≡◌, ap, ◌∙◌}
use Prim.Native.Nat.{ℕ, ◌/◌, ◌^◌, ◌≤◌}
use native.Mathlib.Omega.{arith}
use lib.ListN.{length}
use mir.Facts.{to_z-of_z}
use Rattle.text.specs.Written.{decimal}
use Rattle.text.proofs.DigitLaws.{decimal_u64}
use Rattle.text.proofs.PointLaws.{pointed_long, below_point_length, above_point_length}
use Rattle.text.proofs.point.signed_point_length.Goals as goal

few : (c : goal.After-digit_count) → c.digit_count.result ≤ 20
few c = omega (arith, c.digit_count.ensures, decimal_u64 c.shifted.result (omega (arith, c.shifted.type_inv)))

pub overflow_add-count : goal.overflow_add-count
overflow_add-count c = omega (arith, few c)

pub overflow_add-count-2 : goal.overflow_add-count-2
overflow_add-count-2 c = omega (arith, few c, c.requires)

pub overflow_add-result : goal.overflow_add-result
overflow_add-result c =
    let few : c.digit_count.result ≤ 20 = omega (arith, c.digit_count.ensures, decimal_u64 c.shifted.result (omega (arith, c.shifted.type_inv))) in
    omega (arith, few, c.requires)

pub returns-then-z-lt0 : goal.returns-then-z-lt0
returns-then-z-lt0 c =
    let counted : c.digit_count.result ≡ length (decimal (c.magnitude.result / 10 ^ c.args.k)) = c.digit_count.ensures ∙ ap (λ (n : ℕ). length (decimal n)) c.shifted.ensures in
    let q = simp (to_z-of_z, c.ranges.z) at c.magnitude.ensures in
    let e = simp (to_z-of_z, c.ranges.z) at c.if-z-lt0.true in
    omega (arith, counted, pointed_long c.args.k c.magnitude.result, below_point_length c.args.k c.args.z q e)

pub returns-else-z-lt0 : goal.returns-else-z-lt0
returns-else-z-lt0 c =
    let counted : c.digit_count.result ≡ length (decimal (c.magnitude.result / 10 ^ c.args.k)) = c.digit_count.ensures ∙ ap (λ (n : ℕ). length (decimal n)) c.shifted.ensures in
    let q = simp (to_z-of_z, c.ranges.z) at c.magnitude.ensures in
    let e = simp (to_z-of_z, c.ranges.z) at c.if-z-lt0.false in
    omega (arith, counted, pointed_long c.args.k c.magnitude.result, above_point_length c.args.k c.args.z q e)

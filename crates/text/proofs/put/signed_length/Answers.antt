-- `text::put::signed_length` meets its contract: the digits, and one more for a minus (`below_length`, `above-length`).
use mathlib.Core.Path.{◌∙◌}
use native.Mathlib.Omega.{arith}
use mir.Facts.{to_z-of_z}
use Rattle.text.proofs.DigitLaws.{decimal_u64, below_length, above_length}
use Rattle.text.proofs.put.signed_length.Goals as goal

pub overflow_add-result : goal.overflow_add-result
overflow_add-result c = omega (arith, c.digit_count-count.ensures, decimal_u64 c.magnitude.result (omega (arith, c.magnitude.type_inv)))

pub returns-then-z-lt0 : goal.returns-then-z-lt0
returns-then-z-lt0 c = let q = simp (to_z-of_z, c.ranges.z) at c.magnitude.ensures in
    let e = simp (to_z-of_z, c.ranges.z) at c.if-z-lt0.true in
    omega (arith, c.digit_count-count.ensures, below_length c.args.z q e)

pub returns-else-z-lt0 : goal.returns-else-z-lt0
returns-else-z-lt0 c = let q = simp (to_z-of_z, c.ranges.z) at c.magnitude.ensures in
    let e = simp (to_z-of_z, c.ranges.z) at c.if-z-lt0.false in
    c.digit_count-count.ensures ∙ above_length c.args.z q e

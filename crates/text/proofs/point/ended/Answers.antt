-- `text::point::ended` meets its contract: each return is one case of `decimals_at` where no decimal is left.
use mathlib.Core.Path.{sym, ◌∙◌}
use native.Mathlib.Omega.{arith}
use Rattle.text.proofs.PointLaws.{decimals_zero, decimals_stop, decimals_other}
use Rattle.text.proofs.point.ended.Goals as goal

pub returns-then-minus-v : goal.returns-then-minus-v
returns-then-minus-v c = decimals_zero _ _ _ _ _ c.if-minus-v.true

pub overflow_add-result : goal.overflow_add-result
overflow_add-result c = omega (arith, c.requires.1)

pub returns-then-byte_at-stop : goal.returns-then-byte_at-stop
returns-then-byte_at-stop c = decimals_stop _ _ _ _ _ c.if-minus-v.false (sym c.byte_at.ensures ∙ c.if-byte_at-stop.true)

pub returns : goal.returns
returns c = decimals_other _ _ _ _ _ c.if-minus-v.false (λ e. c.if-byte_at-stop.false (c.byte_at.ensures ∙ e))

-- `daylines::label::without_ending` meets its contract: the laws `ending-none` and `ending-off`.
use mathlib.Core.Path.{sym}
use native.Mathlib.Omega.{arith}
use lib.Seq.{length-take-le}
use Rattle.daylines.proofs.LabelLaws.{ending_none, ending_off}
use Rattle.daylines.proofs.label.without_ending.Goals as goal

pub returns-then-dot-le1 : goal.returns-then-dot-le1
returns-then-dot-le1 c = ending_none _ c.past_last-dot.ensures.value (omega arith)

pub slice_bounds-result-end : goal.slice_bounds-result-end
slice_bounds-result-end c = sym (length-take-le _ _ (omega (arith, c.past_last-dot.ensures.upper_bound)))

pub returns : goal.returns
returns c = ending_off _ c.past_last-dot.ensures.value (omega arith)

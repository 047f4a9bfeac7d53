use mathlib.Core.Path.{◌≡◌}
use native.Mathlib.Omega.{arith}
use lib.ListN.{length}
use Rattle.numbers.proofs.IntLaws.{plain}
use Rattle.text.proofs.MeasureLaws.{measured_none, measured_more, measured_all}
use Rattle.cornertext.specs.CornerText.{corner_line_at, corners_text}
use Rattle.cornertext.proofs.text_length.Goals as goal

counted : (c : goal.After-line_length-sum) → c.line_length-sum.result ≡ length (corner_line_at c.args.row c.args.flows.now c.loop-k.k)
counted c = simp (plain, c.line_length-arg-1.given) at c.line_length-sum.ensures.0

pub loop-k-init : goal.loop-k-init
loop-k-init c = measured_none _ _ _

pub overflow_add-sum : goal.overflow_add-sum
overflow_add-sum c = omega (arith, c.loop-k.invariant.few, c.requires, c.line_length-sum.ensures.1)

pub loop-k-preserved : goal.loop-k-preserved
loop-k-preserved c = measured_more c.loop-k.invariant _ (omega arith) (counted c) (omega (arith, counted c, c.line_length-sum.ensures.1))

pub returns : goal.returns
unfolding corners_text
returns c = measured_all c.loop-k.invariant (omega arith)

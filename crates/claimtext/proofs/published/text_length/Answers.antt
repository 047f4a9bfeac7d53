use native.Mathlib.Omega.{arith}
use Rattle.text.proofs.MeasureLaws.{measured_none, measured_more, measured_all}
use Rattle.claimtext.specs.Published.{published_text}
use Rattle.claimtext.proofs.published.text_length.Goals as goal

pub loop-i-init : goal.loop-i-init
loop-i-init c = measured_none _ _ _

pub line_length-sum-requires : goal.line_length-sum-requires
line_length-sum-requires c = (c.requires.0, c.requires.1, omega arith)

pub overflow_add-sum : goal.overflow_add-sum
overflow_add-sum c = omega (arith, c.loop-i.invariant.few, c.requires.1, c.line_length-sum.ensures.1)

pub loop-i-preserved : goal.loop-i-preserved
loop-i-preserved c = measured_more c.loop-i.invariant _ (omega arith) c.line_length-sum.ensures.0 (omega (arith, c.line_length-sum.ensures.0, c.line_length-sum.ensures.1))

pub returns : goal.returns
unfolding published_text
returns c = measured_all c.loop-i.invariant (omega arith)

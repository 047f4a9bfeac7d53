use native.Mathlib.Omega.{arith}
use Rattle.text.proofs.MeasureLaws.{measured_none, measured_more, measured_all}
use Rattle.partstext.proofs.text_length.Goals as goal

pub loop-i-init : goal.loop-i-init
loop-i-init c = measured_none _ _ _

pub line_length-sum-requires : goal.line_length-sum-requires
line_length-sum-requires c = c.requires.by_index _ (omega arith)

pub overflow_add-sum : goal.overflow_add-sum
overflow_add-sum c = omega (arith, c.loop-i.invariant.few, c.loop-i.invariant.summed.high, c.requires.records_len_bound, c.line_length-sum.ensures, c.requires.by_index c.loop-i.i (omega arith))

pub loop-i-preserved : goal.loop-i-preserved
loop-i-preserved c = measured_more c.loop-i.invariant _ (omega arith) c.line_length-sum.ensures (c.requires.by_index _ (omega arith))

pub returns : goal.returns
returns c = measured_all c.loop-i.invariant (omega arith)

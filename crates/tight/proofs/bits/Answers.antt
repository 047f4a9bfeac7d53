use native.Mathlib.Omega.{arith}
use Rattle.tightrules.proofs.BitsLaws.{halved_none, halved_more, halved_few, halved_all}
use Rattle.tight.proofs.bits.Goals as goal

pub loop-half-init : goal.loop-half-init
loop-half-init c = halved_none _

pub overflow_add-count : goal.overflow_add-count
overflow_add-count c = omega (arith, halved_few c.loop-half.invariant (omega arith))

pub loop-half-preserved : goal.loop-half-preserved
loop-half-preserved c = halved_more c.loop-half.invariant (omega arith)

pub returns : goal.returns
returns c = halved_all c.loop-half.invariant (omega arith)

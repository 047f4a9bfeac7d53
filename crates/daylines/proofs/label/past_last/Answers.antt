use native.Mathlib.Omega.{arith}
use Rattle.daylines.proofs.LabelLaws.{looked_none, looked_here, looked_past, looked_all}
use Rattle.daylines.proofs.label.past_last.Goals as goal
use Rattle.daylines.proofs.label.past_last.Goals.{then-text-i, else-text-i}

pub loop-i-init : goal.loop-i-init
loop-i-init c = looked_none _ _

pub loop-i-preserved : goal.loop-i-preserved
loop-i-preserved c =
    elim c.if-text-i.branch [
      | then-text-i w ↦ looked_here c.loop-i.invariant (omega arith) _ w.if-text-i.true w.past-is
      | else-text-i w ↦ looked_past c.loop-i.invariant (omega arith) _ w.if-text-i.false w.past-is
    ]

pub returns : goal.returns
returns c = record { value = looked_all c.loop-i.invariant (omega arith); upper_bound = omega (arith, c.loop-i.invariant.behind, c.loop-i.invariant.within) }

use native.Mathlib.Omega.{arith}
use Rattle.resting.proofs.KeepLaws.{keeping_none, keeping_up, keeping_on, keeping_all}
use Rattle.resting.proofs.keep_rising.Goals as goal
use Rattle.resting.proofs.keep_rising.Goals.{then-caps-b-gt0, else-caps-b-gt0}

pub loop-j-init : goal.loop-j-init
loop-j-init c = keeping_none _ _ _

pub loop-j-preserved : goal.loop-j-preserved
loop-j-preserved c = elim c.if-caps-b-gt0.branch [
  | then-caps-b-gt0 w ↦ keeping_up c.requires c.loop-j.invariant (omega arith) _ w.if-caps-b-gt0.true w.kept-is
  | else-caps-b-gt0 w ↦ keeping_on c.requires c.loop-j.invariant (omega arith) _ w.if-caps-b-gt0.false w.kept-is
]

pub returns : goal.returns
returns c = keeping_all c.requires c.loop-j.invariant (omega arith)
